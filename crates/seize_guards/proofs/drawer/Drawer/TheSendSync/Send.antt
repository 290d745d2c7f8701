-- A drawer may go to another thread where its value may: a value is all that it owns.
use denote.RattleType.{RattleType}
use denote.Param.Send.{IsSend, struct_send}
use denote.Struct.Declared.{shape}
use Rattle.core.specs.contracts.option.Option as option
use Rattle.seize_guards.specs.declared.drawer.Labelled.{Ghosts}
use Rattle.seize_guards.specs.contracts.drawer.Drawer.{the_row}
use Rattle.seize_guards.specs.contracts.drawer.Drawer.TheInside as inside

held_send : (R : RattleType) → IsSend R → IsSend (option.the_field R).row
held_send R s = search denote.Param.Send.sendable

pub send : (T : RattleType) (g : Ghosts T.Denot) → IsSend T → IsSend (the_row T g)
send T g s =
    record {
      owned = λ n vs. ((λ _. tt), λ i. ((struct_send (shape (inside.the_type T g)) (held_send T s, tt)).owned ((option.the_type T).to i.value, tt) vs, λ _. tt));
      leaving = λ k d w. tt;
    }
