use Rattle.lvs_pair.proofs.both.lead.Goals as goal

pub returns-clause-led : goal.returns-clause-led
returns-clause-led g c = record { ended = c.take_steps-led.ensures.led }
