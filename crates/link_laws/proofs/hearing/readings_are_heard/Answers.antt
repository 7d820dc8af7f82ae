use Rattle.link_laws.proofs.Readings.{heard_reading, kept_reading}
use Rattle.link_laws.proofs.hearing.readings_are_heard.Goals as goal

pub returns : goal.returns
returns c = record { heard = heard_reading; kept = kept_reading }
