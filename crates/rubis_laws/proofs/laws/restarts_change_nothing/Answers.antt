use Rattle.rubis_laws.proofs.Processes.AreARun.{answers_stay}
use Rattle.rubis_laws.proofs.Processes.Restarts.{nothing_left_out, readings_are_moments, recordings_replay, restarted_agree, restarts_change_nothing}
use Rattle.rubis_laws.proofs.Processes.ProcessesConverging.{restarted_converge, new_records_are_read}
use Rattle.rubis_laws.proofs.laws.restarts_change_nothing.Goals as goal

pub returns-clause-answers : goal.returns-clause-answers
returns-clause-answers c = answers_stay

pub returns-clause-processes : goal.returns-clause-processes
returns-clause-processes c = restarts_change_nothing

pub returns-clause-audits : goal.returns-clause-audits
returns-clause-audits c = restarted_agree

pub returns-clause-readings : goal.returns-clause-readings
returns-clause-readings c = readings_are_moments

pub returns-clause-recordings : goal.returns-clause-recordings
returns-clause-recordings c = recordings_replay

pub returns-clause-whole : goal.returns-clause-whole
returns-clause-whole c = nothing_left_out

pub returns-clause-converge : goal.returns-clause-converge
returns-clause-converge c = restarted_converge

pub returns-clause-new : goal.returns-clause-new
returns-clause-new c = new_records_are_read
