use Rattle.rubis_app.proofs.obey.Goals as goal

pub returns-in-Site : goal.returns-in-Site
returns-in-Site g c = c.run_streams.ensures

pub returns-in-World : goal.returns-in-World
returns-in-World g c = c.run_sites.ensures.status

pub returns-in-Audit : goal.returns-in-Audit
returns-in-Audit g c = c.audit_logs.ensures.status

pub returns-in-Lack : goal.returns-in-Lack
returns-in-Lack g c = c.run_lack.ensures.status

pub returns-in-Check : goal.returns-in-Check
returns-in-Check g c = c.run_checker.ensures

pub returns-in-Widen : goal.returns-in-Widen
returns-in-Widen g c = c.run_widener.ensures.status

pub returns-in-Keep : goal.returns-in-Keep
returns-in-Keep g c = c.run_keep.ensures
