use Rattle.rubis_message.proofs.world_inputs.read_world_input.Goals as goal

pub returns-in-Ok-read_audit-clause-limits : goal.returns-in-Ok-read_audit-clause-limits
returns-in-Ok-read_audit-clause-limits g c = c.in-Ok-read_audit.ensures.limits c.args.sites
