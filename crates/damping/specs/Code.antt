-- An update of the code as the one that it asks for. Assumes nothing.
use Rattle.candidates.specs.Answers.{Update, announce, withdraw}
use Rattle.charge.specs.declared.Candidate.{Candidate}
use Rattle.damping.specs.declared.Update as code
use Rattle.damping.specs.declared.Update.TheVariants.{Announce, Withdraw}

abbrev pub update_of : Candidate → code.Update → Update
update_of c (Announce h p) = announce c.address c.length h c.feed p
update_of c Withdraw = withdraw c.address c.length c.feed
