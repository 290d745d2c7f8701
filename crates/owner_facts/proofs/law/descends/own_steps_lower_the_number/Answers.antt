-- The numbers of countings, makings and ends of maps.
use Rattle.owner_facts.proofs.Maps.Begins.ComesToEnd.{beginnings_end, beginnings_leave_less}
use Rattle.owner_facts.proofs.Descends.Ends.{countings_fall, endings_fall, others_leave_endings, as_many, countings_end, endings_end}
use Rattle.owner_facts.proofs.Descends.Owned.{own_endings_end, own_endings_fall}
use Rattle.owner_facts.proofs.law.descends.own_steps_lower_the_number.Goals as goal

pub returns : goal.returns
returns c d = record {
  countings = countings_fall _ _;
  makings = beginnings_leave_less _ _;
  endings = endings_fall _;
  others = others_leave_endings _;
  own_endings = own_endings_fall _;
  many = as_many _ _;
  countings_end = countings_end _ _;
  makings_end = beginnings_end _ _;
  endings_end = endings_end _;
  own_endings_end = own_endings_end _;
}
