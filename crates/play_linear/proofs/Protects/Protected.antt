-- By the history of each list of acts nothing is reclaimed that left its map in a section that goes on.
use Rattle.std.specs.Prelude.{Bool}
use Rattle.std.proofs.Common.{ℕ, refl}
use Rattle.play_lists.specs.Given.ScenesScene.{slot_of}
use Rattle.play_lists.specs.Given.ActsLists.{nothing_done}
use Rattle.play_lists.proofs.Agrees.Guards.{guards_at_first}
use Rattle.play_lists.proofs.Agrees.GivenBack.{again_first}
use Rattle.play_linear.proofs.Linear.Linear.{wherever_led}
use Rattle.play_linear.proofs.Linear.Stays.{first_holds}
use Rattle.play_linear.specs.Protects.Protected.{ListsAreProtected}
use Rattle.play_linear.proofs.Protects.Stays.{All, all_protect}

module _ {K S : Type 0} (V : Type 0) (same : K → K → Bool) (by_hasher : S → K → ℕ) (hash : ℕ → K → ℕ) (batch_size roots : ℕ) where
  pub lists_are_protected : ListsAreProtected {K = K} {S = S} V same by_hasher hash batch_size roots
  lists_are_protected small aborts course doings y led own new =
      let first = nothing_done V same by_hasher batch_size roots slot_of course in
      let to = wherever_led V same by_hasher hash batch_size roots small aborts (All V same by_hasher hash batch_size roots aborts) (all_protect V same by_hasher hash batch_size roots aborts) course doings y led own new (
        first_holds V same by_hasher hash batch_size roots aborts first.0 refl (again_first roots),
        (guards_at_first V same by_hasher hash batch_size roots aborts, (record { guards = λ own g found. absurd (cc found); held = tt }, tt)),
      ) in
      (to.0, to.1, to.2.1.1.1)
