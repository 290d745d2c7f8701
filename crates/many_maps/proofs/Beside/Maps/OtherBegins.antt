-- A row that begins on a block of one map leaves each other map as it is.
use Rattle.std.specs.Prelude.{◌≡◌, ◌≢◌, ◌<◌, ◌≤◌, ℕ, Bool, true, cond, eqb, List, ◌∷◌, Option, Some, None}
use Rattle.std.proofs.Common.{refl, ap, sym, subst, ◌∙◌, inl, inr}
use Rattle.std.proofs.lemmas.Bool.{cases_eq, eq-eqb, ne_eqb}
use Rattle.many_calls.specs.Given.SeizeWordsMem.{value_at}
use Rattle.many_calls.specs.Given.SeizeLaw.{Effect, With, Nowhere, Deferred, where_is, is_standing, is_somewhere, is_open, holds, owner_of}
use Rattle.many_calls.specs.Given.SeizeWorld.{World, Row, Hand, NoBlock, Making, InUse, Parting, Cutting, Handed, LeftTo, Request, Register', Enter', Leave', LeaveOwned, Refresh, Unregister', Retire, Flush, Defer', Begin, Happens, IsOnto, MayCut, one_more, with_at}
use Rattle.many_calls.proofs.Given.SeizeRuleRows.Others.{with_other}
use Rattle.many_calls.specs.Given.TablesNodes.{deferred_word}
use Rattle.many_calls.specs.Given.TablesDeclared.node.Node.{Node}
use Rattle.many_calls.specs.Given.TablesDeclared.setting.Setting.{Setting}
use Rattle.many_calls.specs.Given.RuleChart.{Chart}
use Rattle.many_calls.specs.Given.RuleWords.{Blocks}
use Rattle.many_calls.specs.Given.RuleInWorld.{IsOut, IsHeldBy, IsReached, IsKnownBlock, IsMapIn}
use Rattle.many_calls.proofs.Given.RuleLaws.{current_is_known}
use Rattle.many_calls.proofs.Given.RuleWorld.Hands.{Hands, at_cases, hand_kept, standing_kept}
use Rattle.many_calls.proofs.Given.RuleWorld.OthersSpared.{held_once, keeps_handed}
use Rattle.many_calls.proofs.Given.RuleWorld.WentWrote.{counter_of, map_in}
use Rattle.many_calls.specs.Given.PointsSteps.{AreLawful}
use Rattle.many_calls.specs.Kept.{IsUsersOwn, IsMaking, IsKeptBy}
use Rattle.many_calls.specs.Sights.{Visible}
use Rattle.many_calls.specs.Together.{UnderWay, CameAbout, HandsOver, Together}
use Rattle.many_maps.proofs.Beside.Maps.Stays.{Spared, stays}
use Rattle.many_maps.proofs.Beside.Maps.OtherSteps.{known_owner}
use Rattle.many_calls.proofs.Rows.Behind.{LaySo, deferred_behind}
use Rattle.many_calls.proofs.Together.Came.{came_next}
use Rattle.many_calls.proofs.Together.Handed.{inside_on, inside_back}

module _ {K V Q : Type 0} (same : K → K → Bool) (hash : K → ℕ) (asks : Q → K → Bool) (setting : Setting) (slot : ℕ → ℕ)
    (w : World (Node K V)) (c : Chart K) (blocks : Blocks) (sights : ℕ → Visible) (calls : ℕ → Option (UnderWay K V Q)) (s : Together V same hash asks setting slot w c blocks sights calls)
    (i : ℕ) (none : calls i ≡ None) (b t : ℕ) (row : Row) (log : List Effect) where
  -- a row has begun within the section of slot t that has this block
  abbrev handed : World (Node K V)
  handed = record {
    memory = w.memory;
    row = with_at w.row i row;
    uses = with_at w.uses t (one_more (w.uses t));
    hand = with_at w.hand b Handed;
    log = log;
  }

  -- the block is none of the map's
  module _ (owner : ℕ) (counters : setting.counter ≢ owner) (own : owner_of b w.log ≡ owner) (taken : IsMaking (w.hand b) → ⊥) (left : (j : ℕ) → j ≢ i → IsHeldBy j (w.hand b) → ⊥)
      (placed : (x : ℕ) → x ≢ b → where_is x log ≡ where_is x w.log) (owners : (x : ℕ) → owner_of x log ≡ owner_of x w.log)
      (on : (r x : ℕ) → x ≢ b → holds r x w.log ≡ true → holds r x log ≡ true)
      (behind_other : (u : ℕ) → IsKnownBlock c blocks (blocks.table u) → where_is b log ≡ With (blocks.table u) → where_is b w.log ≡ With (blocks.table u))
      (onto_other : (u : ℕ) → IsKnownBlock c blocks (blocks.table u) → IsOnto (blocks.table u) row → ⊥) (came : CameAbout setting.batch_size handed) where
    apart : (x : ℕ) → IsKnownBlock c blocks x → x ≢ b
    apart x known e = counters (sym (known_owner same hash asks setting slot w c blocks sights calls s x known) ∙ ap (λ (y : ℕ). owner_of y w.log) e ∙ own)

    counter_apart : setting.counter ≢ b
    counter_apart e = taken (subst (λ (x : ℕ). IsMaking (w.hand x)) e s.ground.counter)

    table_known : (u : ℕ) → u < c.past → blocks.table_known u ≡ true → IsKnownBlock c blocks (blocks.table u)
    table_known u made known = inl (u, made, known, refl)

    pair_known : (n : ℕ) → n < c.stored → blocks.pair_known n ≡ true → IsKnownBlock c blocks (blocks.pair n)
    pair_known n was known = inr (n, was, known, refl)

    linked : (u : ℕ) → c.first ≤ u → u < c.past → IsKnownBlock c blocks (blocks.table u)
    linked u l made = table_known u made (s.ground.map.map.shows.linked u l made)

    hand_stays : (x : ℕ) → IsKnownBlock c blocks x → (h : Hand) → w.hand x ≡ h → handed.hand x ≡ h
    hand_stays x known h is = hand_kept w.hand b Handed h x (apart x known) is

    hands : Hands same hash setting handed c blocks
    hands = record {
      tables = λ u l made. hand_stays (blocks.table u) (linked u l made) (InUse setting.counter) (s.ground.map.tables u l made);
      pairs = λ n is. let known = current_is_known same hash setting w.memory c blocks s.ground.map.map.rule s.ground.map.map.shows n is in
          hand_stays (blocks.pair n) (pair_known n known.0 known.1) (InUse setting.counter) (s.ground.map.pairs n is);
      named = λ u j n phase borrowed l made e. named u n l
          (pair_known n (s.ground.map.map.rule.common.keyed u j n phase borrowed e).0 (s.ground.map.map.shows.named u j n phase borrowed made (s.ground.map.map.shows.linked u l made) e))
          (s.ground.map.named u j n phase borrowed l made e);
      tables_out = λ u made known. subst IsOut (sym (hand_stays (blocks.table u) (table_known u made known) (w.hand (blocks.table u)) refl)) (s.ground.map.tables_out u made known);
      pairs_out = λ n was known. subst IsOut (sym (hand_stays (blocks.pair n) (pair_known n was known) (w.hand (blocks.pair n)) refl)) (s.ground.map.pairs_out n was known);
    }
      where
        named : (u n : ℕ) → c.first ≤ u → IsKnownBlock c blocks (blocks.pair n) → IsReached same hash setting w c blocks u n → IsReached same hash setting handed c blocks u n
        named u n l known (inl stands) = inl (standing_kept w.hand b Handed (blocks.pair n) (apart (blocks.pair n) known) stands)
        named u n l known (inr (v, behind, made, is, at)) = inr (v, behind, made, hand_stays (blocks.pair n) known Handed is, placed (blocks.pair n) (apart (blocks.pair n) known) ∙ at)

    map2 : IsMapIn same hash setting handed c blocks
    map2 = map_in same hash setting handed c blocks s.ground.map.map (counter_of same hash setting w c blocks s.ground.map) hands

    kept : (x : ℕ) → IsKnownBlock c blocks x → IsKeptBy w x → IsKeptBy handed x
    kept x known (inl (inl its)) = inl (inl (subst IsUsersOwn (sym (hand_stays x known (w.hand x) refl)) its))
    kept x known (inl (inr reached)) = inl (inr (ap is_somewhere (placed x (apart x known)) ∙ reached))
    kept x known (inr (r, in_it, h)) = inr (r, inside_on w.uses t r in_it, on r x (apart x known) h)

    -- nothing of the map came behind a table by it
    behind : (u x : ℕ) → c.first ≤ u → u < c.past → LaySo x (blocks.table u) w handed
    behind u x l made at = elim (cases_eq x b) as (λ _. (where_is x w.log ≡ With (blocks.table u)) × (owner_of x log ≡ owner_of x w.log) × (value_at w.memory x ≡ value_at w.memory x)) [
      | inl e ↦ (
        subst (λ (y : ℕ). where_is y w.log ≡ With (blocks.table u)) (sym e) (behind_other u (linked u l made) (subst (λ (y : ℕ). where_is y log ≡ With (blocks.table u)) e at)),
        owners x,
        refl,
      )
      | inr ne ↦ (sym (placed x ne) ∙ at, owners x, refl)
    ]

    onto : (u j : ℕ) → c.first ≤ u → u < c.past → IsOnto (blocks.table u) (handed.row j) → IsOnto (blocks.table u) (w.row j)
    onto u j l made =
        at_cases (λ (r : Row). IsOnto (blocks.table u) r → IsOnto (blocks.table u) (w.row j)) w.row i row j (λ e on. absurd (onto_other u (linked u l made) on)) (λ ne on. on)

    pub other_handed : Spared setting w c blocks calls same hash handed
    other_handed = record {
      came = came;
      map = map2;
      kept = kept;
      owner = λ x known. owners x;
      held = λ x known r in_it h. on r x (apart x known) h;
      behind = behind;
      onto = onto;
      value = λ n was known. refl;
      counter = subst IsMaking (sym (hand_kept w.hand b Handed (w.hand setting.counter) setting.counter counter_apart refl)) s.ground.counter;
      inside = λ r h. inside_on w.uses t r h;
      inside_before = λ r h. inside_back w.uses t r h;
      rows = λ j u has. with_other w.row i j row (not_caller j u has);
      own = λ j u has. keeps_handed j w.memory w.hand b Handed (left j (not_caller j u has));
    }
      where
        not_caller : (j : ℕ) (u : UnderWay K V Q) → calls j ≡ Some u → j ≢ i
        not_caller j u has e = let at : calls j ≡ None = ap calls e ∙ none in cc (at, has)

-- what is unlinked, or may be, its maker hasn't
pub cutting_not_making : (h : Hand) → {j : ℕ} → h ≡ Cutting j → IsMaking h → ⊥
cutting_not_making h e making = subst IsMaking e making

pub cut_not_making : (i : ℕ) (h : Hand) → MayCut i h → IsMaking h → ⊥
cut_not_making i NoBlock cut making = making
cut_not_making i (Making j) cut making = cut
cut_not_making i (InUse o) cut making = making
cut_not_making i (Parting j) cut making = making
cut_not_making i (Cutting j) cut making = making
cut_not_making i Handed cut making = making
cut_not_making i (LeftTo j) cut making = making

module _ {K V Q : Type 0} (same : K → K → Bool) (hash : K → ℕ) (asks : Q → K → Bool) (setting : Setting) (slot : ℕ → ℕ) (lawful : AreLawful same hash)
    (w : World (Node K V)) (c : Chart K) (blocks : Blocks) (sights : ℕ → Visible) (calls : ℕ → Option (UnderWay K V Q)) (s : Together V same hash asks setting slot w c blocks sights calls)
    (i : ℕ) (none : calls i ≡ None) (other : Setting) (counters : setting.counter ≢ other.counter) (w2 : World (Node K V)) where
  spared : (request : Request) → HandsOver other i w request → Happens deferred_word setting.batch_size (Begin i request) w w2 → Spared setting w c blocks calls same hash w2
  spared (Retire t b) hands h =
      subst (Spared setting w c blocks calls same hash) (sym h.1.2)
      (other_handed same hash asks setting slot w c blocks sights calls s i none b t _ w.log other.counter counters hands.0 (cutting_not_making (w.hand b) h.1.1.1)
      (λ j ne held. ne (held_once j i (w.hand b) held hands.1)) (λ x ne. refl) (λ x. refl) (λ r x ne held. held) (λ u known at. at) (λ u known on. on)
      (subst (CameAbout setting.batch_size) h.1.2 (came_next setting.batch_size w w2 (Begin i (Retire t b)) s.ground.came h)))
  spared (Defer' t b d) hands h =
      subst (Spared setting w c blocks calls same hash) (sym h.1.7)
      (other_handed same hash asks setting slot w c blocks sights calls s i none b t _ (Deferred b d ∷ w.log) other.counter counters hands.0 (cut_not_making i (w.hand b) h.1.2)
      (λ j ne held. ne (held_once j i (w.hand b) held hands.1))
      (λ x ne. ap (λ (q : Bool). cond q (cond (is_standing (where_is d w.log)) (With d) Nowhere) (where_is x w.log)) (ne_eqb x b ne)) (λ x. refl)
      (λ r x ne held. ap (λ (q : Bool). cond q (cond (is_standing (where_is d w.log)) (is_open r w.log) (holds r x w.log)) (holds r x w.log)) (ne_eqb x b ne) ∙ held)
      (λ u known at. absurd (no_table_of u known (deferred_behind (eqb b b) (is_standing (where_is d w.log)) d (blocks.table u) (where_is b w.log) (eq-eqb b b refl) at)))
      (λ u known on. no_table_of u known (sym on))
      (subst (CameAbout setting.batch_size) h.1.7 (came_next setting.batch_size w w2 (Begin i (Defer' t b d)) s.ground.came h)))
    where
      -- what it is deferred behind is the other map's
      no_table_of : (u : ℕ) → IsKnownBlock c blocks (blocks.table u) → d ≡ blocks.table u → ⊥
      no_table_of u known e = counters (sym (known_owner same hash asks setting slot w c blocks sights calls s (blocks.table u) known) ∙ ap (λ (y : ℕ). owner_of y w.log) (sym e) ∙ hands.2)
  spared (Register' enters) hands h = absurd hands
  spared (Enter' t) hands h = absurd hands
  spared (Leave' t) hands h = absurd hands
  spared (LeaveOwned t) hands h = absurd hands
  spared (Refresh t) hands h = absurd hands
  spared (Unregister' t) hands h = absurd hands
  spared (Flush t) hands h = absurd hands

  -- it stands on
  pub other_begun : (request : Request) → HandsOver other i w request → Happens deferred_word setting.batch_size (Begin i request) w w2 → Together V same hash asks setting slot w2 c blocks sights calls
  other_begun request hands h = stays same hash asks setting slot lawful w c blocks sights calls s w2 (spared request hands h)
