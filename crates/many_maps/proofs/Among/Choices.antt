-- A choice of a free block number leaves each map, each making and each end as it was.
use Rattle.std.specs.Prelude.{ℕ, Bool, [], ◌∷◌, ◌++◌, Option, Some}
use Rattle.std.proofs.Common.{◌≡◌, refl, sym, subst}
use Rattle.many_calls.specs.Given.SeizeWorld.{World, Chooses}
use Rattle.many_calls.specs.Given.TablesDeclared.node.Node.{Node}
use Rattle.many_calls.specs.Given.TablesDeclared.setting.Setting.{Setting}
use Rattle.many_calls.specs.Given.RuleChart.{Chart}
use Rattle.many_calls.specs.Given.RuleInWorld.{PreservesBlocks}
use Rattle.many_calls.specs.Given.RuleWords.{Blocks}
use Rattle.many_calls.specs.Together.{UnderWay, CameAbout, Together}
use Rattle.many_calls.proofs.Together.Came.{came_next}
use Rattle.many_maps.specs.Choices.{ChoicesPreserveTheInvariant}
use Rattle.many_maps.specs.Endings.{Finishing, EndingsTogether}
use Rattle.many_maps.specs.Makings.{Beginning, MakingsTogether}
use Rattle.many_maps.specs.Maps.{Standing, MapsTogether}
use Rattle.many_maps.proofs.Among.Beside.{endings_same}
use Rattle.many_maps.proofs.Beside.Endings.Spares.{IsSpared, SparesEnd}
use Rattle.many_maps.proofs.Beside.Makings.Beside.{LeavesMakings, makings_on}
use Rattle.many_maps.proofs.Beside.Makings.Lasts.{counter_on}
use Rattle.many_maps.proofs.Beside.Maps.Left.{Leaves, left_spared}
use Rattle.many_maps.proofs.Beside.Maps.Stays.{stays}

module _ {K V : Type 0} (w : World (Node K V)) (choice : ℕ) where
  abbrev chosen : World (Node K V)
  chosen = record w { memory = record w.memory { choices = w.memory.choices ++ choice ∷ [] } }

  came_chosen : (size : ℕ) → CameAbout size w → CameAbout size chosen
  came_chosen size came = came_next size w chosen (Chooses choice) came refl

  own_same : (j : ℕ) → PreservesBlocks j w.memory w.hand chosen.memory chosen.hand
  own_same j = record { blocks = λ b value is other held. (refl, is); words = λ b field value is other made. refl }

  block_same : (b : ℕ) → IsSpared w chosen b
  block_same b = record { value = refl; words = λ field word no is. is; hand = refl; owner = refl; orphan = refl; over = refl }

  end_same : (size : ℕ) → CameAbout size w → (owner root i : ℕ) → SparesEnd w chosen size owner root i
  end_same size came owner root i = record {
    came = came_chosen size came;
    blocks = λ b of. block_same b;
    counter = λ is making. block_same owner;
    links = λ b word left is. is;
    behind = λ b x used at. (at, refl, refl);
    onto = λ b j used on. on;
    root_leads = λ word is. is;
    root_used = λ is. is;
  }

  map_same : {Q : Type 0} (setting : Setting) (c : Chart K) (blocks : Blocks) (calls : ℕ → Option (UnderWay K V Q)) → CameAbout setting.batch_size w → Leaves setting w c blocks calls chosen
  map_same setting c blocks calls came = record {
    came = came_chosen setting.batch_size came;
    known = λ b known. record {
      value = refl;
      words = λ field word is. is;
      hand = refl;
      owner = refl;
      carried = λ t its at. at;
      kept = λ h. h;
      held = λ r in_it h. h;
    };
    behind = λ t x l made at. (at, refl, refl);
    onto = λ t j l made on. on;
    root = λ word is. is;
    counter_value = refl;
    counter_hand = refl;
    counter_words = λ field word is. is;
    inside = λ r h. h;
    inside_before = λ r h. h;
    rows = λ j u has. refl;
    own = λ j u has. own_same j;
  }

module _ {K Q : Type 0} (V : Type 0) (same : K → K → Bool) (asks : Q → K → Bool) (batch_size roots : ℕ) (slot : ℕ → ℕ)
    (w : World (Node K V)) (maps : ℕ → Option (Standing K)) (calls : ℕ → ℕ → Option (UnderWay K V Q)) (makers : ℕ → Option (Beginning K)) (enders : ℕ → Option (Finishing K V))
    (all : EndingsTogether V same asks batch_size roots slot w maps calls makers enders) (choice : ℕ) where
  abbrev then_at : World (Node K V)
  then_at = chosen w choice

  came : CameAbout batch_size w
  came = all.makings.standing.came

  map_then : (m : ℕ) (s : Standing K) → maps m ≡ Some s → Together V same s.hash asks s.setting slot then_at s.chart s.blocks s.sights (calls m)
  map_then m s is =
      let here = all.makings.standing.each m s is in
      stays same s.hash asks s.setting slot (all.makings.standing.fit m s is).0 w s.chart s.blocks s.sights (calls m) here then_at
      (left_spared same s.hash asks s.setting slot w s.chart s.blocks s.sights (calls m) here then_at (map_same w choice s.setting s.chart s.blocks (calls m) here.ground.came))

  maps_then : MapsTogether V same asks batch_size slot then_at maps calls
  maps_then =
      let standing = all.makings.standing in
      record {
        came = came_chosen w choice batch_size came;
        each = map_then;
        fit = standing.fit;
        roots = standing.roots;
        counters = standing.counters;
        only = standing.only;
        once = standing.once;
      }

  leaves : LeavesMakings {Q = Q} V same asks batch_size roots slot w maps makers then_at
  leaves = record {
    used = λ r word is. is;
    root = λ r word is apart. is;
    own = λ j b makes. own_same w choice j;
    counter = λ j b makes made h. counter_on same j w then_at b.machine.setting refl refl (λ field word is. is) h;
  }

  makings_then : MakingsTogether V same asks batch_size roots slot then_at maps calls makers
  makings_then =
      makings_on V same asks batch_size roots slot w maps calls makers all.makings then_at leaves maps calls maps_then (λ m s here. (s, here, refl)) (λ m none. none) all.makings.alone

  endings_then : EndingsTogether V same asks batch_size roots slot then_at maps calls makers enders
  endings_then =
      endings_same V same asks batch_size roots slot w maps calls makers enders all then_at (λ j f is. (f.setting.counter, λ has. refl, end_same w choice batch_size came f.setting.counter f.setting.root j))
      maps calls makings_then (λ j f is. (all.alone j f is).0) (λ m s here. (s, here, refl))

module _ {K Q : Type 0} (V : Type 0) (same : K → K → Bool) (asks : Q → K → Bool) (batch_size roots : ℕ) (slot : ℕ → ℕ) where
  pub choices_stand_among : ChoicesPreserveTheInvariant V same asks batch_size roots slot
  choices_stand_among w maps calls makers enders all choice w2 h =
      subst (λ (x : World (Node K V)). EndingsTogether V same asks batch_size roots slot x maps calls makers enders) (sym h) (endings_then V same asks batch_size roots slot w maps calls makers enders all choice)
