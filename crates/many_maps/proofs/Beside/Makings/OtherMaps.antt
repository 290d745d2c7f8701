-- A step of a making leaves each map that stands as it is.
use Rattle.std.specs.Prelude.{◌≡◌, ◌≢◌, ℕ, Bool, Option, None}
use Rattle.std.proofs.Common.{sym, subst, ap, ◌∙◌, inl, inr}
use Rattle.many_calls.specs.Given.SeizeWorld.{World, IsOnto}
use Rattle.many_calls.specs.Given.TablesNodes.{deferred_word}
use Rattle.many_calls.specs.Given.TablesDeclared.node.Node.{Node}
use Rattle.many_calls.specs.Given.TablesDeclared.node.Node.TheVariants as node
use Rattle.many_calls.specs.Given.TablesDeclared.setting.Setting.{Setting}
use Rattle.many_calls.specs.Given.ResizeDeclared.new_map.NewMap.{NewMap}
use Rattle.many_calls.specs.Given.RuleChart.{Chart}
use Rattle.many_calls.specs.Given.RuleWords.{Blocks}
use Rattle.many_calls.specs.Given.RuleInWorld.{IsOut, IsKnownBlock}
use Rattle.many_calls.specs.Given.PointsSteps.{AreLawful}
use Rattle.many_maps.specs.Makings.{HasMade}
use Rattle.many_calls.specs.Sights.{Visible}
use Rattle.many_calls.specs.Together.{UnderWay, Together}
use Rattle.many_maps.proofs.Beside.Makings.Leaves.{IsItsBlock, IsItsRoot, IsAsItWas, LeavesOthers, came_then, rows_same, still_inside, was_inside, goes_on_holding, kept_then}
use Rattle.many_maps.proofs.Beside.Maps.Left.{Leaves, left_spared}
use Rattle.many_maps.proofs.Beside.Maps.OtherSteps.{known_out, known_there}
use Rattle.many_maps.proofs.Beside.Maps.Stays.{stays}
use Rattle.many_calls.proofs.Rows.Behind.{events_back}
use Rattle.many_calls.proofs.Together.Came.{came_reached}

module _ {K V Q : Type 0} (same : K → K → Bool) (hash : K → ℕ) (asks : Q → K → Bool) (setting : Setting) (slot : ℕ → ℕ) (lawful : AreLawful same hash)
    (w : World (Node K V)) (c : Chart K) (blocks : Blocks) (sights : ℕ → Visible) (calls : ℕ → Option (UnderWay K V Q)) (s : Together V same hash asks setting slot w c blocks sights calls)
    (roots i : ℕ) (n : NewMap) (none : calls i ≡ None) (w2 : World (Node K V)) (left : LeavesOthers i n w w2 setting.batch_size roots)
    (root : IsItsRoot i n w setting.root → ⊥) (counter : HasMade n.stands → n.setting.counter ≢ setting.counter) where
  not_its : (b : ℕ) → IsKnownBlock c blocks b → IsItsBlock i n w b → ⊥
  not_its b known its = subst IsOut its.0 (known_out same hash asks setting slot w c blocks sights calls s b known)

  counter_not_its : IsItsBlock i n w setting.counter → ⊥
  counter_not_its (making, inl unlike) = unlike s.ground.map.counter
  counter_not_its (making, inr (made, is)) = counter made (sym is)

  known_as : (b : ℕ) → IsKnownBlock c blocks b → IsAsItWas i n w w2 b
  known_as b known = let there = known_there same hash asks setting slot w c blocks sights calls s b known in left.blocks b there.0 there.1 (not_its b known)

  counter_as : IsAsItWas i n w w2 setting.counter
  counter_as = left.blocks setting.counter node.Shards s.ground.map.counter counter_not_its

  leaves : Leaves setting w c blocks calls w2
  leaves = record {
    came = came_then setting.batch_size roots i n w w2 s.ground.came left;
    known = λ b known. record {
      value = (known_as b known).value;
      words = (known_as b known).words;
      hand = (known_as b known).hand;
      owner = (known_as b known).owner;
      carried = λ t its at. (known_as b known).place ∙ at;
      kept = kept_then setting.batch_size roots i n w w2 s.ground.came left b (known_as b known);
      held = goes_on_holding setting.batch_size roots i n w w2 s.ground.came left b;
    };
    behind = λ t x l made. events_back deferred_word setting.batch_size x (blocks.table t) left.events w w2 (came_reached setting.batch_size w s.ground.came) left.users left.runs;
    onto = λ t j l made on. subst (IsOnto (blocks.table t)) (rows_same setting.batch_size roots i n w w2 s.ground.came left j) on;
    root = λ word is. left.root setting.root word is root;
    counter_value = counter_as.value;
    counter_hand = counter_as.hand;
    counter_words = counter_as.words;
    inside = still_inside setting.batch_size roots i n w w2 s.ground.came left;
    inside_before = was_inside setting.batch_size roots i n w w2 s.ground.came left;
    rows = λ j u has. rows_same setting.batch_size roots i n w w2 s.ground.came left j;
    own = λ j u has. left.own j (λ e. (let at : calls j ≡ None = ap calls e ∙ none in cc (at, has)));
  }

  -- it stands on
  pub map_stays : Together V same hash asks setting slot w2 c blocks sights calls
  map_stays = stays same hash asks setting slot lawful w c blocks sights calls s w2 (left_spared same hash asks setting slot w c blocks sights calls s w2 leaves)
