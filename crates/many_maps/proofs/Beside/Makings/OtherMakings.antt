-- A step of a making leaves each other making what it has.
use Rattle.std.specs.Prelude.{◌≡◌, ◌≢◌, ℕ, Bool}
use Rattle.std.proofs.Common.{sym}
use Rattle.many_calls.specs.Given.SeizeWorld.{World, Making}
use Rattle.many_calls.specs.Given.TablesDeclared.node.Node.{Node}
use Rattle.many_calls.specs.Given.TablesDeclared.node.Node.TheVariants as node
use Rattle.many_calls.specs.Given.ResizeDeclared.new_map.NewMap.{NewMap}
use Rattle.many_maps.specs.Makings.{HasTaken, HasOwnCounter}
use Rattle.many_maps.proofs.Beside.Makings.Lasts.{IsLeftTo, counter_on}
use Rattle.many_maps.proofs.Beside.Makings.Leaves.{IsItsBlock, IsItsRoot, IsAsItWas, LeavesOthers}

module _ {K V : Type 0} (same : K → K → Bool) (size roots i : ℕ) (n : NewMap) (w w2 : World (Node K V)) (left : LeavesOthers i n w w2 size roots) where
  module _ (j : ℕ) (other : i ≢ j) (n2 : NewMap) (roots_apart : HasTaken n.stands → HasTaken n2.stands → n.setting.root ≢ n2.setting.root) where
    not_its_root : HasTaken n2.stands → IsItsRoot i n w n2.setting.root → ⊥
    not_its_root taken2 (taken, is) = roots_apart taken taken2 (sym is)

    counter_as : HasOwnCounter w j n2.setting → IsAsItWas i n w w2 n2.setting.counter
    counter_as h = left.blocks n2.setting.counter node.Shards h.value not_its
      where
        not_its : IsItsBlock i n w n2.setting.counter → ⊥
        not_its its = other (same_maker i j (let a = its.0 in let z = h.hand in cc (a, z)))
          where
            same_maker : (a z : ℕ) → Making a ≡ Making z → a ≡ z
            same_maker a z e = cc e

    pub making_left : IsLeftTo same j w w2 n2
    making_left = record {
      used = λ taken is. left.used n2.setting.root is (not_its_root taken);
      root = λ taken is. left.root n2.setting.root 0 is (not_its_root taken);
      own = left.own j (λ e. other (sym e));
      counter = λ made h. counter_on same j w w2 n2.setting (counter_as h).value (counter_as h).hand (counter_as h).words h;
    }
