-- A step of a making spares a map that ends.
use Rattle.std.specs.Prelude.{◌≡◌, ◌≢◌, ℕ, Some}
use Rattle.std.proofs.Common.{subst, inl, inr}
use Rattle.many_calls.specs.Given.SeizeWordsMem.{value_at}
use Rattle.many_calls.specs.Given.SeizeWorld.{World, IsOnto}
use Rattle.many_calls.specs.Given.TablesNodes.{deferred_word}
use Rattle.many_calls.specs.Given.TablesDeclared.node.Node.{Node}
use Rattle.many_calls.specs.Given.TablesDeclared.node.Node.TheVariants as node
use Rattle.many_calls.specs.Given.ResizeDeclared.new_map.NewMap.{NewMap}
use Rattle.many_maps.specs.Makings.{HasMade}
use Rattle.many_calls.specs.Together.{CameAbout}
use Rattle.many_maps.proofs.Beside.Endings.Spares.{IsOfEnd, IsSpared, SparesEnd, end_not_made, end_there}
use Rattle.many_maps.proofs.Beside.Makings.Leaves.{IsItsBlock, IsItsRoot, IsAsItWas, LeavesOthers, came_then, rows_same}
use Rattle.many_calls.proofs.Rows.Behind.{events_back}
use Rattle.many_calls.proofs.Together.Came.{came_reached}

module _ {K V : Type 0} (size roots i : ℕ) (n : NewMap) (w w2 : World (Node K V)) (came : CameAbout size w) (left : LeavesOthers i n w w2 size roots)
    (owner root ender : ℕ) (counter : HasMade n.stands → owner ≢ n.setting.counter) (other_root : IsItsRoot i n w root → ⊥) where
  as_it_was : (b : ℕ) → IsOfEnd w owner ender b → IsAsItWas i n w w2 b
  as_it_was b of = let there = end_there size w came owner ender b of in left.blocks b there.0 there.1 (λ its. end_not_made w owner ender b of i its.0)

  spared : (b : ℕ) → IsAsItWas i n w w2 b → IsSpared w w2 b
  spared b k = record {
    value = k.value;
    words = λ field word no is. k.words field word is;
    hand = k.hand;
    owner = k.owner;
    orphan = k.orphan;
    over = k.over;
  }

  -- the counter of the map that ends is none of the making's
  counter_not_its : value_at w.memory owner ≡ Some node.Shards → IsItsBlock i n w owner → ⊥
  counter_not_its is (making, inl unlike) = unlike is
  counter_not_its is (making, inr (made, e)) = counter made e

  pub making_spares_end : SparesEnd w w2 size owner root ender
  making_spares_end = record {
    came = came_then size roots i n w w2 came left;
    blocks = λ b of. spared b (as_it_was b of);
    counter = λ is making. spared owner (left.blocks owner node.Shards is (counter_not_its is));
    links = λ b word is_left is. (as_it_was b (inr is_left)).link word (end_not_made w owner ender b (inr is_left) i) is;
    behind = λ b x used. events_back deferred_word size x b left.events w w2 (came_reached size w came) left.users left.runs;
    onto = λ b j used on. subst (IsOnto b) (rows_same size roots i n w w2 came left j) on;
    root_leads = λ word is. left.root root word is other_root;
    root_used = λ is. left.used root is other_root;
  }
