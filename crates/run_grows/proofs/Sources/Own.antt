-- Where pairs of the map were copied from on which a call takes a step that is none of a row: where they were before, and one that is copied by the step, from its place in the root.
use Rattle.std.specs.Prelude.{◌≡◌, ◌≢◌, ℕ, ◌+◌, ◌<◌, ◌≤◌, nat_lt, Bool, true, false, List, [], ◌∷◌, Option, Some, if◌then◌else◌}
use Rattle.std.proofs.Common.{refl, ap, sym, subst, ◌∙◌, arith, inl, inr}
use Rattle.std.proofs.lemmas.Bool.{cases_eq, cases_lt}
use Rattle.run_finds.specs.Given.SeizeWordsMem.{Mem}
use Rattle.run_finds.specs.Given.SeizeWorld.{World}
use Rattle.run_finds.specs.Given.TablesChunks.{is_incremental}
use Rattle.run_finds.specs.Given.TablesDeclared.node.Node.{Node}
use Rattle.run_finds.specs.Given.RunsDeclared.effect.Effect.{Effect}
use Rattle.run_finds.specs.Given.RunsDeclared.effect.Effect.TheVariants.{Copied as CopiedTo, Stored, Replaced, Removed, Linked, Promoted}
use Rattle.run_finds.specs.Given.RunsDeclared.effect.Spot.{Spot}
use Rattle.run_finds.specs.Given.RunsDeclared.effect.TableId.{TableId}
use Rattle.run_finds.specs.Given.SchedulesEffects.{later, is_chunked, spot_by, with_effects}
use Rattle.run_finds.specs.Given.SchedulesLists.{put}
use Rattle.run_finds.specs.Given.SchedulesMoment.{Moment}
use Rattle.run_finds.specs.Given.EffectsDeclared.changed.Changed.{Changed}
use Rattle.run_finds.specs.Given.RuleChart.{Phase, Copying, Holds, Chart, is_settled}
use Rattle.run_finds.specs.Given.RuleInWorld.{IsMapIn, Moved, StepSpec}
use Rattle.run_finds.specs.Given.RuleLasts.{Lasts}
use Rattle.run_finds.specs.Given.RuleMaps.{spot_of}
use Rattle.run_finds.specs.Given.RuleMoves.{Move, Links, Stores, Replaces, Removes, Marks, MarksBlocking, Skips, Unmarks, Puts, Covers, PutsLate, Claims, Reclaims, Counts, GivesUp, Aborts, Promotes, Announces, Allowed, after, lent_place}
use Rattle.run_finds.specs.Given.RuleRule.{Rule}
use Rattle.run_finds.specs.Given.RuleWords.{Blocks}
use Rattle.run_finds.proofs.Given.RuleMoves.Promised.{moves_keep}
use Rattle.run_finds.proofs.Given.RuleMoves.Writes.{put_in_elsewhere}
use Rattle.run_finds.specs.Given.PointsSteps.{AreLawful}
use Rattle.run_finds.specs.Given.CallersSights.{Visible, seen_by, IsGrown, IsVisibility}
use Rattle.run_finds.specs.Given.CallersTogether.{in_slot}
use Rattle.run_finds.specs.Given.EffectsEffects.{effects_of}
use Rattle.run_finds.specs.Given.EffectsKnown.{Known}
use Rattle.run_finds.specs.Given.EffectsDeclared.acting.Acting.TheVariants.{Call}
use Rattle.run_finds.specs.Given.FinishesMaps.{Standing}
use Rattle.run_finds.specs.Given.FollowsBlocks.{RefinesBlocks}
use Rattle.run_finds.specs.Given.FollowsMaps.{table_of, RefinesMap}
use Rattle.run_finds.proofs.Given.FollowsAlike.{put_elsewhere}
use Rattle.run_finds.proofs.Given.FollowsFinds.{chunks_are}
use Rattle.run_finds.proofs.Given.FollowsOperations.{LeavesBy}
use Rattle.run_finds.specs.Given.SpotsSpots.{spot_in, LiesAt}
use Rattle.run_finds.proofs.Given.SpotsDone.{DidBy, DidMoved}
use Rattle.run_finds.proofs.Given.SpotsEffects.{AllAside, AreAside, aside_all, calm_aside, spot_copied, spot_copied_other}
use Rattle.run_finds.proofs.Given.SpotsNames.{holds_is}
use Rattle.run_grows.specs.Sources.Sources.{HasSource, CameFromPlaces}
use Rattle.run_grows.proofs.Sources.Moves.{Moving, NamedBehind, stays}

-- a later spot is no earlier than either
no_earlier : (s t : Spot) → (s.turn ≤ (later s t).turn) × (t.turn ≤ (later s t).turn)
no_earlier s t = by (nat_lt s.turn t.turn) refl
  where
    by : (q : Bool) → nat_lt s.turn t.turn ≡ q → (s.turn ≤ (if q then t else s).turn) × (t.turn ≤ (if q then t else s).turn)
    by true e = grind (arith, e)
    by false e = grind (arith, e)

module _ {K V : Type 0} (same : K → K → Bool) (slot caller map : ℕ) (name : Option (List ℕ)) (number : ℕ → ℕ) (s : Standing K) (lawful : AreLawful same s.hash)
    (w : World (Node K V)) (sight : Visible) (is_sight : IsVisibility s.chart s.blocks sight) (is_map : IsMapIn same s.hash (in_slot s.setting slot) w s.chart (seen_by s.blocks sight))
    (m2 : Mem (Node K V)) (Told : World (Node K V) → Chart K → Blocks → Type 0)
    (went : StepSpec same s.hash (in_slot s.setting slot) caller w s.chart (seen_by s.blocks sight) m2 Told) (blocks2 : Blocks) (grown : IsGrown s.chart s.blocks went.blocks2 blocks2) (sights2 : ℕ → Visible)
    (m : Moment K V) (known : Known) (shown : RefinesMap map number s m known) (shown_blocks : RefinesBlocks m known w)
    (told : Changed) (left : LeavesBy w.memory m2 told)
    (lies : (n : ℕ) → s.chart.current n ≡ true → LiesAt s.chart (is_incremental s.setting.mode) n (m.spot (number n)) (m.born (number n)).turn)
    (chunks : is_incremental s.setting.mode ≡ true) (came : CameFromPlaces s.chart number m) where
  abbrev c : Chart K
  c = s.chart

  rule : Rule same (spot_of s.hash) true c
  rule = subst (λ (q : Bool). Rule same (spot_of s.hash) q c) chunks is_map.map.rule

  lies_so : (n : ℕ) → c.current n ≡ true → LiesAt c true n (m.spot (number n)) (m.born (number n)).turn
  lies_so n current = subst (λ (q : Bool). LiesAt c q n (m.spot (number n)) (m.born (number n)).turn) chunks (lies n current)

  abbrev led : List Effect → Moment K V
  led e = with_effects name (Some map) e m

  abbrev effects : List Effect
  effects = effects_of (Call caller map) known told

  abbrev By : Move K → Type 0
  By = DidBy same slot caller map name number s lawful w sight is_sight is_map m2 Told went blocks2 grown sights2 m known shown shown_blocks told left

  -- of the pairs that were there, at this moment and in these tables
  abbrev OldCame : Chart K → Moment K V → Type 0
  OldCame d v = (n : ℕ) → n < c.stored → (v.born (number n)).turn < (v.spot (number n)).turn → HasSource d n (v.spot (number n)).turn

  -- a place that names a pair which is being copied is one of the root; the pair is in the map, and named where it lies
  named_behind : (n : ℕ) → (t i : ℕ) (borrowed : Bool) → t < (m.spot (number n)).turn → i < c.len t → c.place t i ≡ Holds n Copying borrowed → NamedBehind same (spot_of s.hash) c rule n
  named_behind n t i borrowed before within held = elim (cases_lt t c.first) as (λ _. NamedBehind same (spot_of s.hash) c rule n) [
    | inl l ↦ absurd (let settled = ap is_settled (sym held) ∙ rule.in_mode.settled t i l within in cc settled)
    | inr home ↦
        let at = lies_so n (rule.common.is_current t i n Copying borrowed held (λ e. cc e) home) in
        let it = holds_is (c.place (m.spot (number n)).turn (m.spot (number n)).place) n _ at.1 in
        ((m.spot (number n)).turn, (m.spot (number n)).place, it.0, _, omega (arith, home, before), it.1)
  ]

  module _ (move : Move K) (allowed : Allowed same (spot_of s.hash) true move c) where
    abbrev d : Chart K
    d = after (spot_of s.hash) true move c

    lasts : Lasts same (spot_of s.hash) true c d
    lasts = (moves_keep same (spot_of s.hash) true lawful.lawful move c rule allowed).1

    -- the place from which a pair came is one still
    source_stays : (n turn : ℕ) → turn ≤ (m.spot (number n)).turn → HasSource c n turn → HasSource d n turn
    source_stays n turn up h =
        let was : Moving same (spot_of s.hash) c rule n (c.place h.table h.place) = record { phase = h.is.phase; borrowed = h.is.borrowed; held = h.is.held; moves = h.is.moves } in
        let on = stays same (spot_of s.hash) c rule n h.table h.place was move allowed
        (λ copying. named_behind n h.table h.place h.is.borrowed (let b = h.before in omega (arith, b, up)) h.is.within (h.is.held ∙ ap (λ (x : Phase). Holds n x h.is.borrowed) copying)) in
        let kept = lasts.lens h.table h.is.made in
        record {
          table = h.table;
          before = h.before;
          place = h.place;
          is = record {
            made = (let more = lasts.past in let was_made = h.is.made in omega (arith, more, was_made));
            within = subst (λ (x : ℕ). h.place < x) (sym kept.0) h.is.within;
            phase = on.phase;
            borrowed = on.borrowed;
            held = on.held;
            moves = on.moves;
          };
        }

    -- of a pair that lies where it lay
    same_came : (v : Moment K V) (n : ℕ) → n < c.stored → v.born (number n) ≡ m.born (number n) → v.spot (number n) ≡ m.spot (number n) → (v.born (number n)).turn < (v.spot (number n)).turn
        → HasSource d n (v.spot (number n)).turn
    same_came v n old born spot ahead =
        subst (λ (x : Spot). HasSource d n x.turn) (sym spot)
        (source_stays n (m.spot (number n)).turn (omega arith) (came n old (subst (λ (x : TableId). x.turn < (m.spot (number n)).turn) born (subst (λ (x : Spot). (v.born (number n)).turn < x.turn) spot ahead))))

    aside_came : (v : Moment K V) → AreAside m v → OldCame d v
    aside_came v aside n old ahead = same_came v n old (ap (λ (f : ℕ → TableId). f (number n)) aside.born) (ap (λ (f : ℕ → Spot). f (number n)) aside.spot) ahead

  chunked : is_chunked (Some map) m ≡ true
  chunked = chunks_are map number s m known shown ∙ chunks

  apart : (n o : ℕ) → n < c.stored → o < c.stored → n ≢ o → number n ≢ number o
  apart n o l l2 ne e = elim (cases_lt n o) as (λ _. ⊥) [
    | inl less ↦ (let r = shown.pairs.rising n o less l2 in omega (arith, r, e))
    | inr more ↦ (let r = shown.pairs.rising o n (omega (arith, more, ne)) l in omega (arith, r, e))
  ]

  -- a pair is copied from its place in the root
  module _ (by i t : ℕ) (k : K) (j n : ℕ) (borrowed : Bool) (allowed : Allowed same (spot_of s.hash) true (Puts by i t k j) c) (held : c.place c.first i ≡ Holds n Copying borrowed) (its_old : n < c.stored) where
    abbrev sp : Spot
    sp = spot_in t (spot_of s.hash (c.len t) k j)

    abbrev copying : Moment K V
    copying = led (CopiedTo (number n) sp ∷ [])

    abbrev d2 : Chart K
    d2 = after (spot_of s.hash) true (Puts by i t k j) c

    its_spot : copying.spot (number n) ≡ later (m.spot (number n)) sp
    its_spot = ap (λ (x : Bool). spot_by x m.place m.copy (CopiedTo (number n) sp) m.spot (number n)) chunked ∙ spot_copied true m.place m.copy (number n) sp m.spot

    its_source : HasSource d2 n (copying.spot (number n)).turn
    its_source =
        let up = no_earlier (m.spot (number n)) sp in
        let kept = (lasts (Puts by i t k j) allowed).lens c.first (let a = allowed.0 in let b = allowed.1 in omega (arith, a, b)) in
        record {
          table = c.first;
          before = subst (λ (x : Spot). c.first < x.turn) (sym its_spot) (let a = allowed.0 in let u = up.1 in omega (arith, a, u));
          place = i;
          is = record {
            made = (let a = allowed.0 in let b = allowed.1 in omega (arith, a, b));
            within = allowed.2;
            phase = Copying;
            borrowed = borrowed;
            held = put_in_elsewhere c.place t (spot_of s.hash (c.len t) k j) (lent_place (spot_of s.hash) true (c.place c.first i)) c.first i (λ e. (let a = allowed.0 in omega (arith, a, e))) ∙ held;
            moves = λ e. cc e;
          };
        }

    put_came : OldCame d2 copying
    put_came o old ahead = elim (cases_eq o n) as (λ _. HasSource d2 o (copying.spot (number o)).turn) [
      | inl e ↦ subst (λ (x : ℕ). HasSource d2 x (copying.spot (number x)).turn) (sym e) its_source
      | inr ne ↦ same_came (Puts by i t k j) allowed copying o old refl (spot_copied_other _ m.place m.copy (number n) sp m.spot (number o) (apart o n old its_old ne)) ahead
    ]

  -- a pair was stored, which is none of the old ones
  store_came : (move : Move K) (allowed : Allowed same (spot_of s.hash) true move c) (v : Moment K V) (t i : ℕ) → v.spot ≡ put (known.stored + 1) (spot_in t i) m.spot → v.born ≡ put (known.stored + 1) (table_of map t) m.born
      → OldCame (after (spot_of s.hash) true move c) v
  store_came move allowed v t i spot_is born_is n old ahead =
      let older : number n ≢ known.stored + 1 = (λ e. (let many = shown_blocks.stored in let le = (shown.pairs.numbered n old).1 in omega (arith, e, many, le))) in
      same_came move allowed v n old (ap (λ (f : ℕ → TableId). f (number n)) born_is ∙ put_elsewhere (known.stored + 1) (table_of map t) m.born (number n) older)
      (ap (λ (f : ℕ → Spot). f (number n)) spot_is ∙ put_elsewhere (known.stored + 1) (spot_in t i) m.spot (number n) older) ahead

  promote_came : (t : ℕ) (allowed : Allowed same (spot_of s.hash) true (Promotes t) c) → OldCame (after (spot_of s.hash) true (Promotes t) c) (led (Promoted (table_of map t) ∷ []))
  promote_came t allowed n old ahead =
      same_came (Promotes t) allowed (led (Promoted (table_of map t) ∷ [])) n old refl (ap (λ (x : Bool). spot_by x m.place m.copy (Promoted (table_of map t)) m.spot (number n)) chunked) ahead

  abbrev Goal : Type 0
  Goal = OldCame went.c2 (led effects)

  as_done : (e : List Effect) → effects ≡ e → (d : Chart K) → went.c2 ≡ d → OldCame d (led e) → Goal
  as_done e are d is h = subst (λ (x : List Effect). OldCame went.c2 (led x)) (sym are) (subst (λ (x : Chart K). OldCame x (led e)) (sym is) h)

  by_move : (move : Move K) (allowed : Allowed same (spot_of s.hash) true move c) → went.c2 ≡ after (spot_of s.hash) true move c → By move → Goal
  by_move (Links len limit) allowed is (b, own, done) = as_done _ done.0 _ is (aside_came (Links len limit) allowed _ (aside_all name (Some map) (Linked (table_of map c.past) (record { len = len; limit = limit }) ∷ []) m (refl, tt)))
  by_move (Stores t k j) allowed is (i, b, own, its_block, done) = as_done _ done.0 _ is (store_came (Stores t k j) allowed (led (Stored (known.stored + 1) (spot_in t (spot_of s.hash (c.len t) k j)) ∷ [])) t (spot_of s.hash (c.len t) k j) refl refl)
  by_move (Replaces t i k) allowed is (n, borrowed, held, (j, b, own, its_block, done)) =
      as_done _ done.0 _ is (store_came (Replaces t i k) allowed (led (Replaced (number n) ∷ Stored (known.stored + 1) (spot_in t i) ∷ [])) t i refl refl)
  by_move (Removes t i) allowed is (n, borrowed, held, done) = as_done _ done.0 _ is (aside_came (Removes t i) allowed _ (aside_all name (Some map) (Removed (number n) ∷ []) m (refl, tt)))
  by_move (Puts by i t k j) allowed is (n, borrowed, held, l, seen, done) = as_done _ done.0 _ is (put_came by i t k j n borrowed allowed held l)
  by_move (PutsLate t i n) allowed is did = absurd (let e = allowed.0 in cc e)
  by_move (Promotes t) allowed is done = as_done _ done.0 _ is (promote_came t allowed)
  by_move (Marks by i) allowed is calm = as_done _ refl _ is (aside_came (Marks by i) allowed _ (aside_all name (Some map) effects m (calm_aside effects calm.calm)))
  by_move (MarksBlocking i) allowed is calm = absurd (let e = allowed.0 in cc e)
  by_move (Skips by t i) allowed is calm = absurd (let e = allowed.0 in cc e)
  by_move (Unmarks by i) allowed is calm = as_done _ refl _ is (aside_came (Unmarks by i) allowed _ (aside_all name (Some map) effects m (calm_aside effects calm.calm)))
  by_move (Covers by i) allowed is calm = as_done _ refl _ is (aside_came (Covers by i) allowed _ (aside_all name (Some map) effects m (calm_aside effects calm.calm)))
  by_move (Claims by t chunk) allowed is calm = as_done _ refl _ is (aside_came (Claims by t chunk) allowed _ (aside_all name (Some map) effects m (calm_aside effects calm.calm)))
  by_move (Reclaims t claim) allowed is calm = as_done _ refl _ is (aside_came (Reclaims t claim) allowed _ (aside_all name (Some map) effects m (calm_aside effects calm.calm)))
  by_move (Counts by t many) allowed is calm = as_done _ refl _ is (aside_came (Counts by t many) allowed _ (aside_all name (Some map) effects m (calm_aside effects calm.calm)))
  by_move (GivesUp by t) allowed is calm = as_done _ refl _ is (aside_came (GivesUp by t) allowed _ (aside_all name (Some map) effects m (calm_aside effects calm.calm)))
  by_move (Aborts t) allowed is calm = as_done _ refl _ is (aside_came (Aborts t) allowed _ (aside_all name (Some map) effects m (calm_aside effects calm.calm)))
  by_move (Announces t) allowed is calm = as_done _ refl _ is (aside_came (Announces t) allowed _ (aside_all name (Some map) effects m (calm_aside effects calm.calm)))

  -- no table has changed
  stays_calm : went.c2 ≡ c → AllAside effects → Goal
  stays_calm is all n old ahead =
      let aside = aside_all name (Some map) effects m all in
      let born = ap (λ (f : ℕ → TableId). f (number n)) aside.born in
      let spot = ap (λ (f : ℕ → Spot). f (number n)) aside.spot in
      subst (λ (x : Chart K). HasSource x n ((led effects).spot (number n)).turn) (sym is)
      (subst (λ (x : Spot). HasSource c n x.turn) (sym spot)
      (came n old (subst (λ (x : TableId). x.turn < (m.spot (number n)).turn) born (subst (λ (x : Spot). ((led effects).born (number n)).turn < x.turn) spot ahead))))

  pub own_came : DidMoved same slot caller map name number s lawful w sight is_sight is_map m2 Told went blocks2 grown sights2 m known shown shown_blocks told left went.moved → Goal
  own_came did = by went.moved did
    where
      by : (moved : Moved same s.hash s.setting.mode caller c went.c2) → DidMoved same slot caller map name number s lawful w sight is_sight is_map m2 Told went blocks2 grown sights2 m known shown shown_blocks told left moved → Goal
      by (inl still) calm = stays_calm still (calm_aside effects calm.calm)
      by (inr made) did = by_move made.0 (subst (λ (q : Bool). Allowed same (spot_of s.hash) q made.0 c) chunks made.1)
          (made.2 ∙ ap (λ (q : Bool). after (spot_of s.hash) q made.0 c) chunks) did
