use Rattle.rubis_reading.proofs.stretches.read_piece.Goals as goal

pub returns-clause-window : goal.returns-clause-window
returns-clause-window c = c.in_ok-keep_messages.ensures.window c.args.window c.in_ok-read_all.ensures.window
