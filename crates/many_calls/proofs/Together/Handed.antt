-- A caller hands a block to the collector that its section holds: all that is looked at is there still.
use Rattle.std.specs.Prelude.{◌≡◌, ◌≢◌, ℕ, suc, ◌<◌, ◌≤◌, Bool, true, List, Option}
use Rattle.std.proofs.Common.{refl, ap, sym, subst, ◌∙◌, inl, inr}
use Rattle.std.proofs.lemmas.Bool.{cases_eq}
use Rattle.seize_model.specs.Given.SeizeLaw.{Effect, With, where_is, is_somewhere, holds, owner_of}
use Rattle.seize_model.specs.Given.SeizeWorld.{World, Row, Use, Vacant, Outside, Inside, Changing, Handed, IsInside, one_more, with_at}
use Rattle.seize_model.proofs.Given.SeizeRuleRows.Others.{with_other}
use Rattle.map_facts_late.specs.Given.TablesChunks.{is_incremental}
use Rattle.map_facts_late.specs.Given.TablesDeclared.node.Node.{Node}
use Rattle.map_facts_late.specs.Given.TablesDeclared.setting.Setting.{Setting}
use Rattle.map_facts_late.specs.Given.RuleChart.{Chart}
use Rattle.map_facts_late.specs.Given.RuleWords.{Blocks}
use Rattle.map_facts_late.specs.Given.RuleMaps.{spot_of}
use Rattle.map_facts_late.specs.Given.RuleInWorld.{IsHeldBy, IsMapIn}
use Rattle.map_facts_late.specs.Given.PointsFactsIdle.{IsIdle}
use Rattle.map_facts_late.specs.Given.PointsSteps.{AreLawful}
use Rattle.map_facts_late.proofs.Given.RuleWorld.Hands.{at_cases, hand_kept}
use Rattle.map_facts_late.proofs.Given.RuleHistory.LeavingOn.{leaves_same}
use Rattle.map_facts_late.proofs.Given.RuleWorld.OthersSpared.{held_once, keeps_handed}
use Rattle.map_facts_late.specs.Given.PointsOthers.{OthersStep}
use Rattle.many_calls.specs.Kept.{IsUsersOwn, IsMaking, IsKeptBy, IsWithin, IsPairOf, DeferredIsOwned}
use Rattle.many_calls.specs.Sights.{Visible, seen_by}
use Rattle.many_calls.specs.Together.{Ground, UnderWay, in_slot, CameAbout, Together}
use Rattle.many_calls.proofs.Rows.Behind.{pair_on}
use Rattle.many_calls.proofs.Sights.Seen.{map_seen}
use Rattle.many_calls.proofs.Together.FactsOn.{idle_on}
use Rattle.many_calls.proofs.Together.Fits.{unless_on, map_in_slot, Fits, stands_of, stands_on}

pub more_inside : (u : Use) → IsInside u → IsInside (one_more u)
more_inside Vacant h = h
more_inside (Outside k) h = h
more_inside (Inside k) h = tt
more_inside Changing h = h

pub more_back : (u : Use) → IsInside (one_more u) → IsInside u
more_back Vacant h = h
more_back (Outside k) h = h
more_back (Inside k) h = tt
more_back Changing h = h

pub inside_on : (uses : ℕ → Use) (s t : ℕ) → IsInside (uses t) → IsInside (with_at uses s (one_more (uses s)) t)
inside_on uses s t = at_cases (λ (u : Use). IsInside (uses t) → IsInside u) uses s (one_more (uses s)) t (λ e h. more_inside (uses s) (subst (λ (x : ℕ). IsInside (uses x)) e h)) (λ ne h. h)

pub inside_back : (uses : ℕ → Use) (s t : ℕ) → IsInside (with_at uses s (one_more (uses s)) t) → IsInside (uses t)
inside_back uses s t = at_cases (λ (u : Use). IsInside u → IsInside (uses t)) uses s (one_more (uses s)) t (λ e h. subst (λ (x : ℕ). IsInside (uses x)) (sym e) (more_back (uses s) h)) (λ ne h. h)

module _ {K V Q : Type 0} (same : K → K → Bool) (hash : K → ℕ) (asks : Q → K → Bool) (setting : Setting) (slot : ℕ → ℕ) (lawful : AreLawful same hash)
    (w : World (Node K V)) (c : Chart K) (blocks : Blocks) (sights : ℕ → Visible) (calls : ℕ → Option (UnderWay K V Q)) (s : Together V same hash asks setting slot w c blocks sights calls)
    (i : ℕ) (inside : IsInside (w.uses (slot i))) (b : ℕ) (row : Row) (log : List Effect) where
  -- a row has begun that has this block
  abbrev pub begun : World (Node K V)
  begun = record {
    memory = w.memory;
    row = with_at w.row i row;
    uses = with_at w.uses (slot i) (one_more (w.uses (slot i)));
    hand = with_at w.hand b Handed;
    log = log;
  }

  module _ (its : IsHeldBy i (w.hand b)) (other : setting.counter ≢ b) (here : holds (slot i) b log ≡ true) (placed : (x : ℕ) → x ≢ b → where_is x log ≡ where_is x w.log)
      (on : (t x : ℕ) → holds t x w.log ≡ true → holds t x log ≡ true) (owners : (x : ℕ) → owner_of x log ≡ owner_of x w.log)
      (carried : (t : ℕ) → c.first ≤ t → t < c.past → where_is b log ≡ With (blocks.table t) → IsPairOf w setting.counter b × (suc t < c.past))
      (came : CameAbout setting.batch_size begun) (map : IsMapIn same hash setting begun c blocks) where
    abbrev now_inside : (t : ℕ) → IsInside (w.uses t) → IsInside (begun.uses t)
    now_inside t h = inside_on w.uses (slot i) t h

    kept_on : (x : ℕ) → IsKeptBy w x → IsKeptBy begun x
    kept_on x k = elim (cases_eq x b) as (λ _. IsKeptBy begun x) [
      | inl e ↦ subst (IsKeptBy begun) (sym e) (inr (slot i, now_inside (slot i) inside, here))
      | inr ne ↦ beside ne k
    ]
      where
        beside : x ≢ b → IsKeptBy w x → IsKeptBy begun x
        beside ne (inl (inl own)) = inl (inl (subst IsUsersOwn (sym (hand_kept w.hand b Handed (w.hand x) x ne refl)) own))
        beside ne (inl (inr reached)) = inl (inr (ap is_somewhere (placed x ne) ∙ reached))
        beside ne (inr (t, in_it, h)) = inr (t, now_inside t in_it, on t x h)

    within : (t : ℕ) → IsWithin w t c (seen_by blocks (sights t)) setting → IsWithin begun t c (seen_by blocks (sights t)) setting
    within t h = record {
      inside = now_inside t h.inside;
      tables = λ n made known. on t (blocks.table n) (h.tables n made known);
      pairs = λ n was known. on t (blocks.pair n) (h.pairs n was known);
      counter = subst IsMaking (sym (hand_kept w.hand b Handed (w.hand setting.counter) setting.counter other refl)) h.counter;
    }

    -- what lies behind a table is as it was, and so is this block
    behind : DeferredIsOwned begun c blocks setting.counter
    behind t x l made at = elim (cases_eq x b) as (λ _. IsPairOf begun setting.counter x × (suc t < c.past)) [
      | inl e ↦ on_begun x (subst (λ (y : ℕ). IsPairOf w setting.counter y × (suc t < c.past)) (sym e) (carried t l made (subst (λ (y : ℕ). where_is y log ≡ With (blocks.table t)) e at)))
      | inr ne ↦ on_begun x (s.ground.behind t x l made (sym (placed x ne) ∙ at))
    ]
      where
        on_begun : (y : ℕ) → IsPairOf w setting.counter y × (suc t < c.past) → IsPairOf begun setting.counter y × (suc t < c.past)
        on_begun y k = (pair_on setting.counter y w begun (owners y) refl k.0, k.1)

    pub ground_begun : Ground V same hash asks setting slot begun c blocks sights
    ground_begun = record {
      came = came;
      map = map;
      moments = s.ground.moments;
      kept = record { tables = λ t made known. kept_on (blocks.table t) (s.ground.kept.tables t made known); pairs = λ n was known. kept_on (blocks.pair n) (s.ground.kept.pairs n was known) };
      owned = record { tables = λ t made known. owners (blocks.table t) ∙ s.ground.owned.tables t made known; pairs = λ n was known. owners (blocks.pair n) ∙ s.ground.owned.pairs n was known };
      behind = behind;
      sources = s.ground.sources;
      counter = subst IsMaking (sym (hand_kept w.hand b Handed (w.hand setting.counter) setting.counter other refl)) s.ground.counter;
      sight = λ t in_it. let h = s.ground.sight t (inside_back w.uses (slot i) t in_it) in (h.0, within t h.1);
    }

    -- it was none of what others have
    others_step : (j : ℕ) → j ≢ i → (seen : Blocks) → OthersStep same hash (in_slot setting (slot j)) j w c seen begun c seen
    others_step j ne seen = record {
      leaves = leaves_same same (spot_of hash) (is_incremental setting.mode) j c;
      tables = λ t made known. (refl, known);
      pairs = λ n was known. (refl, known);
      values = λ n was known. refl;
      own = keeps_handed j w.memory w.hand b Handed (λ held. ne (held_once j i (w.hand b) held its));
    }

    part : (v : World (Node K V)) (j : ℕ) → IsMapIn same hash setting v c blocks → IsInside (w.uses (slot j)) → IsMapIn same hash (in_slot setting (slot j)) v c (seen_by blocks (sights (slot j)))
    part v j m in_it = map_seen same hash (in_slot setting (slot j)) v c blocks (sights (slot j)) (map_in_slot same hash setting v c blocks (slot j) m) (s.ground.sight (slot j) in_it).0

    idle_begun : (j : ℕ) → j ≢ i → IsIdle same hash w j (in_slot setting (slot j)) c blocks → IsIdle same hash begun j (in_slot setting (slot j)) c blocks
    idle_begun j ne =
        idle_on same hash asks (in_slot setting (slot j)) j lawful w begun c c blocks blocks (map_in_slot same hash setting w c blocks (slot j) s.ground.map) (map_in_slot same hash setting begun c blocks (slot j) map)
        s.ground.moments (others_step j ne blocks) (λ blocking t made l. l)

    pub others_begun : (j : ℕ) → j ≢ i → Fits same hash asks setting slot begun c blocks (sights (slot j)) j (calls j)
    others_begun j ne = record {
      inside = λ v e. unless_on v (now_inside (slot j)) (s.inside j v e);
      stand = λ v e. stands_of same hash asks setting slot (w.uses (slot j)) j w begun c c blocks blocks (sights (slot j)) (sights (slot j)) (with_other w.row i j row ne) (idle_begun j ne) v (s.inside j v e)
          (λ in_it. stands_on same hash asks setting slot lawful j w begun c c (seen_by blocks (sights (slot j))) (seen_by blocks (sights (slot j))) (part w j s.ground.map in_it) (part begun j map in_it)
          s.ground.moments (others_step j ne (seen_by blocks (sights (slot j)))) (λ blocking t made l. l) i (inl refl) (with_other w.row i j row ne) v) (s.stand j v e);
      idle = λ e. idle_begun j ne (s.idle j e);
    }
