-- An event keeps all its promises.
use Rattle.run_grows.proofs.Given.FindsLittle.{events_leave_little}
use Rattle.run_legal.specs.Promises.{EventsAreLegal}

pub events_are_legal : (K V : Type 0) → EventsAreLegal K V
events_are_legal K V same name terms log e known s word right makes does waits but run reclaims shows = record {
  right = right;
  steps = record { makes = makes; does = does; brief = but.brief };
  waits = waits;
  linearizable = but.linearizable;
  swept = but.swept;
  life = but.life;
  protected = but.protected;
  by_model = but.by_model;
  little = events_leave_little K V terms log e known s.world word run.order.0 reclaims run.over shows;
}
