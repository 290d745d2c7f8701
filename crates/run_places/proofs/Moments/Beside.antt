-- What a moment shows of calls and of hands lasts by a step that is of no call, and takes away what is in no map and what no call asks about.
use Rattle.std.specs.Prelude.{◌≡◌, ℕ, ◌<◌, ◌≤◌, ◌==◌, Bool, true, List, length, find, Option, Some, None, IsSome, ◌⊎◌}
use Rattle.std.specs.Int.{IsPowerOfTwo}
use Rattle.std.proofs.Common.{refl, ap, sym, subst, ◌∙◌, inl, inr}
use Rattle.run_shows.specs.Given.SeizeWordsMem.{value_at}
use Rattle.run_shows.specs.Given.SeizeWordsWord.{block_in}
use Rattle.run_shows.specs.Given.SeizeWorld.{InUse}
use Rattle.run_shows.specs.Given.TablesDeclared.node.Node.{Node}
use Rattle.run_shows.specs.Given.RunsSame.{is_same}
use Rattle.run_shows.specs.Given.RawDeclared.machines.asking.Asking.{Asking as AskingAt}
use Rattle.run_shows.specs.Given.RawDeclared.machines.asking.Asking.TheVariants as asking
use Rattle.run_shows.specs.Given.RawDeclared.machines.call.Calling.TheVariants as at
use Rattle.run_shows.specs.Given.RunsDeclared.call.Call.{Call}
use Rattle.run_shows.specs.Given.RunsDeclared.call.Call.TheVariants as call
use Rattle.run_shows.specs.Given.RunsDeclared.effect.TableId.{TableId}
use Rattle.run_shows.specs.Given.SchedulesMoment.{InMap, MapThere, UnderWay as CallThere, Moment}
use Rattle.run_shows.specs.Given.SchedulesViews.{is_in_a_map, map_at, call_of}
use Rattle.run_shows.specs.Given.RuleChart.{Chart, Still}
use Rattle.run_shows.specs.Given.RuleWords.{byte_of}
use Rattle.run_shows.proofs.Given.RuleLaws.{words_name_pairs, bytes_are_few}
use Rattle.run_shows.specs.Given.PointsSteps.{AreLawful}
use Rattle.run_shows.specs.Given.CallersSights.{seen_by}
use Rattle.run_shows.specs.Given.CallersTogether.{CallOnKey, UnderWay, OnKey, ForRoom, Counting, OverAll, AsksAbout, Together}
use Rattle.run_shows.proofs.Given.CallersTogether.Replies.{replies_stand_together}
use Rattle.run_shows.specs.Given.EffectsKnown.{Known}
use Rattle.run_shows.specs.Given.EffectsDeclared.role.Role.TheVariants as role
use Rattle.run_shows.specs.Given.FinishesMaps.{Standing}
use Rattle.run_shows.specs.Follows.Blocks.{HasRole}
use Rattle.run_shows.specs.Follows.Shows.{Refines}
use Rattle.run_shows.proofs.Follows.Onward.{IsOfMap}
use Rattle.run_places.specs.Hands.Asked.{IsQuestion, IsAskedAs, IsAsked, RefinesAsked}
use Rattle.run_places.specs.Hands.Hands.{IsInUse, RefinesHands}
use Rattle.run_places.proofs.Hands.HandsOn.{in_one}
use Rattle.run_shows.specs.Others.After.{RefinesAfter}
use Rattle.run_shows.specs.Scenes.Held.{Held, IsAt}
use Rattle.run_shows.specs.Scenes.Scene.{Scene, slot_of}

module _ {K V : Type 0} (known known2 : Known) (s s2 : Scene K V) where
  -- a block came as a table: it is in use, and has its place in its map, if that stands
  pub record CameAsTable (b : ℕ) : Type 0 where
    pub len : ℕ
    pub table : TableId
    pub is : known2.roles b ≡ role.Table table len
    pub used : (owner : ℕ) × (s2.world.hand b ≡ InUse owner)
    pub place : (st : Standing K) → s2.maps table.map ≡ Some st → (table.turn < st.chart.past) × (st.chart.first ≤ table.turn → b ≡ st.blocks.table table.turn)

  -- the map stood so, with its tables in the same blocks
  abbrev pub StoodSo : ℕ → Standing K → Type 0
  StoodSo map st = (before : Standing K) × (s.maps map ≡ Some before) × (st.chart ≡ before.chart) × ((t : ℕ) → st.blocks.table t ≡ before.blocks.table t)

  -- or it is new: no call is under way on it, and no block was a table of it
  abbrev pub StandsNew : ℕ → Type 0
  StandsNew map = ((i : ℕ) → s2.calls map i ≡ None) × ((b len : ℕ) (t : TableId) → known.roles b ≡ role.Table t len → t.map ≡ map → ⊥)

-- Calls, maps and what was stored are as they were. A pair is in the map in which it was, or in none. A block of a map was so, or came as a table. One that is there
-- is what it was, and is in use still if it was, and each map that stands then stood so, with its tables, or is new.
pub record IsBeside {K V : Type 0} (m m2 : Moment K V) (known known2 : Known) (s s2 : Scene K V) : Type 0 where
  pub stored : m2.stored ≡ m.stored
  pub born : m2.born ≡ m.born
  pub calls : m2.calls ≡ m.calls
  pub maps : m2.maps ≡ m.maps
  pub place : (n map : ℕ) → m2.place n ≡ InMap map → m.place n ≡ InMap map
  pub back : (b : ℕ) → IsOfMap (known2.roles b) → (known2.roles b ≡ known.roles b) ⊎ CameAsTable known known2 s s2 b
  pub roles : (b : ℕ) → IsSome (value_at s2.world.memory b) → IsOfMap (known.roles b) → known2.roles b ≡ known.roles b
  pub hands : (b : ℕ) → IsSome (value_at s2.world.memory b) → IsInUse (s.world.hand b) → IsInUse (s2.world.hand b)
  pub same_calls : s2.calls ≡ s.calls
  pub stood : (map : ℕ) (st : Standing K) → s2.maps map ≡ Some st → StoodSo known known2 s s2 map st ⊎ StandsNew known known2 s s2 map

module _ {K V : Type 0} (same : K → K → Bool) (name : ℕ → List ℕ) (m m2 : Moment K V) (known known2 : Known) (s s2 : Scene K V) (shown : Refines same name m known s)
    (after : RefinesAfter same name m known s shown m2 known2 s2) (beside : IsBeside m m2 known known2 s s2) where
  some_is : (b : ℕ) (value : Node K V) → value_at s2.world.memory b ≡ Some value → IsSome (value_at s2.world.memory b)
  some_is b value e = subst (λ (o : Option (Node K V)). IsSome o) (sym e) refl

  -- hands
  module _ (hands : RefinesHands m known s) where
    pair_used : (b n : ℕ) → known2.roles b ≡ role.Pair n → is_in_a_map (m2.place n) ≡ true → IsInUse (s2.world.hand b)
    pair_used b n is there =
        let had = subst (HasRole s2.world m2.stored b) is (after.shows.blocks.roles b) in
        let it = in_one (m2.place n) there in
        beside.hands b (some_is b _ had.3) (hands.pairs b n (was_pair (beside.back b (subst IsOfMap (sym is) tt))) (ap is_in_a_map (beside.place n it.0 it.1)))
      where
        was_pair : (known2.roles b ≡ known.roles b) ⊎ CameAsTable known known2 s s2 b → known.roles b ≡ role.Pair n
        was_pair (inl was) = sym was ∙ is
        was_pair (inr came) = absurd (let table = came.is in cc (table, is))

    table_used : (b len : ℕ) (t : TableId) (there : MapThere) → known2.roles b ≡ role.Table t len → map_at t.map m2 ≡ Some there → there.first ≤ t.turn → IsInUse (s2.world.hand b)
    table_used b len t there is at_map from =
        let had = subst (HasRole s2.world m2.stored b) is (after.shows.blocks.roles b) in
        elim (beside.back b (subst IsOfMap (sym is) tt)) as (λ _. IsInUse (s2.world.hand b)) [
          | inl was ↦
              beside.hands b (some_is b _ had.1)
              (hands.tables b len t there (sym was ∙ is) (ap (λ (fs : List MapThere). find (λ f. f.number == t.map) fs) (sym beside.maps) ∙ at_map) from)
          | inr came ↦ subst IsInUse (sym came.used.1) tt
        ]

    born_so : (n map : ℕ) → m2.place n ≡ InMap map → (n ≤ length m2.stored) × ((m2.born n).map ≡ map)
    born_so n map at_map =
        let was = hands.born n map (beside.place n map at_map) in
        (subst (λ (xs : List (K × V)). n ≤ length xs) (sym beside.stored) was.0, ap (λ (f : ℕ → TableId). (f n).map) beside.born ∙ was.1)

    stand_so : (b len : ℕ) (t : TableId) (st : Standing K) → known2.roles b ≡ role.Table t len → s2.maps t.map ≡ Some st → (t.turn < st.chart.past) × (st.chart.first ≤ t.turn → b ≡ st.blocks.table t.turn)
    stand_so b len t st is there = by (beside.back b (subst IsOfMap (sym is) tt)) (beside.stood t.map st there)
      where
        Goal : TableId → Type 0
        Goal u = (u.turn < st.chart.past) × (st.chart.first ≤ u.turn → b ≡ st.blocks.table u.turn)

        by : (known2.roles b ≡ known.roles b) ⊎ CameAsTable known known2 s s2 b → StoodSo known known2 s s2 t.map st ⊎ StandsNew known known2 s s2 t.map → Goal t
        by (inl was) (inl stood) =
            let had = hands.stand b len t stood.0 (sym was ∙ is) stood.1 in (
              subst (λ (c : Chart K). t.turn < c.past) (sym stood.2) had.0,
              λ from. had.1 (subst (λ (c : Chart K). c.first ≤ t.turn) stood.2 from) ∙ sym (stood.3 t.turn),
            )
        by (inl was) (inr newly) = absurd (newly.1 b len t (sym was ∙ is) refl)
        by (inr came) so =
            let same_table : came.table ≡ t = (let table = came.is in cc (table, is)) in
            subst Goal same_table (came.place st (ap s2.maps (ap (λ (u : TableId). u.map) same_table) ∙ there))

    pub hands_beside : RefinesHands m2 known2 s2
    hands_beside = record { pairs = pair_used; tables = table_used; born = born_so; stand = stand_so }

  -- calls
  module _ (hash : ℕ → K → ℕ) (new : Held K V) (at_new : IsAt same hash new s2) (asked : RefinesAsked name shown.number m known s) where
    -- the pair that a call asks about is there
    module _ (map i : ℕ) (u : CallOnKey K V K) (here : s2.calls map i ≡ Some (OnKey u)) (st : Standing K) (there : s2.maps map ≡ Some st) where
      each : Together V same st.hash same st.setting slot_of s2.world st.chart st.blocks st.sights (s2.calls map)
      each = at_new.together.makings.standing.each map st there

      fits : AreLawful same st.hash × IsPowerOfTwo st.setting.initial × (st.setting.batch_size ≡ new.batch_size)
      fits = at_new.together.makings.standing.fit map st there

      asks_about : (it : AskingAt) → u.call.stands ≡ at.Asks it → (about : Option ℕ) × AsksAbout V same st.hash same st.setting slot_of st.chart (seen_by st.blocks (st.sights (slot_of i))) it about
      asks_about it stands =
          (replies_stand_together same st.hash same st.setting slot_of fits.0 fits.1 s2.world st.chart st.blocks st.sights (s2.calls map) each i u here it stands).0

      is_there : (word : ℕ) (about : Option ℕ) → AsksAbout V same st.hash same st.setting slot_of st.chart (seen_by st.blocks (st.sights (slot_of i))) (asking.Present word) about
          → IsSome (value_at s2.world.memory (block_in word))
      is_there word None asks = absurd asks
      is_there word (Some n) (l, seen, borrowed, word_is) =
          let names : block_in word ≡ st.blocks.pair n = ap block_in word_is
          ∙ words_name_pairs st.blocks.pair (λ x. byte_of st.hash (st.chart.key x)) n Still borrowed (bytes_are_few st.hash fits.0.fits (st.chart.key n)) in
          let known_too = (each.ground.sight (slot_of i) (each.inside i (OnKey u) here)).0.pairs n l seen in
          let value = (each.ground.map.map.shows.pairs n l known_too).2 in
          some_is (block_in word) _ (ap (value_at s2.world.memory) names ∙ value)

      question_so : (it : AskingAt) (q : Option ℕ) → u.call.stands ≡ at.Asks it → IsQuestion known it q → IsQuestion known2 it q
      question_so (asking.Absent gap) None stands is = tt
      question_so (asking.Absent gap) (Some k) stands is = absurd is
      question_so (asking.Present word) None stands is = absurd is
      question_so (asking.Present word) (Some k) stands is =
          let about = asks_about (asking.Present word) stands in
          beside.roles (block_in word) (is_there word about.0 about.1) (subst IsOfMap (sym is) tt) ∙ is
      question_so (asking.Fills word) None stands is = absurd is
      question_so (asking.Fills word) (Some k) stands is = absurd is
      question_so (asking.GivesUp word) None stands is = absurd is
      question_so (asking.GivesUp word) (Some k) stands is = absurd is

      on_key : (x : Call K V) (c : CallThere K V) (number : ℕ → ℕ) (stored : ℕ) → IsAskedAs number stored known u x c → IsAskedAs number stored known2 u x c
      on_key (call.On one) c number stored h = record {
        asked = h.asked;
        given = h.given;
        replies = h.replies;
        first = h.first;
        replacing = h.replacing;
        asks = λ q stands. (let was = h.asks q stands in (was.0, was.1, question_so was.0 q was.1 was.2));
      }
      on_key (call.Reserve additional) c number stored h = tt
      on_key call.Clear c number stored h = tt
      on_key call.Retain c number stored h = tt
      on_key call.Len c number stored h = tt
      on_key call.Walk c number stored h = tt

    asked_so : (map i : ℕ) (u : UnderWay K V K) → s2.calls map i ≡ Some u → (st : Standing K) → s2.maps map ≡ Some st → (c : CallThere K V) (number : ℕ → ℕ) (stored : ℕ)
        → IsAsked number stored known u c → IsAsked number stored known2 u c
    asked_so map i (OnKey u) here st there c number stored h = on_key map i u here st there c.call c number stored h
    asked_so map i (ForRoom r) here st there c number stored h = tt
    asked_so map i (Counting sum) here st there c number stored h = tt
    asked_so map i (OverAll o) here st there c number stored h = tt

    was_here : (map i : ℕ) (u : UnderWay K V K) → s2.calls map i ≡ Some u → s.calls map i ≡ Some u
    was_here map i u here = subst (λ (f : ℕ → ℕ → Option (UnderWay K V K)). f map i ≡ Some u) beside.same_calls here

    pub asked_beside : RefinesAsked name after.shows.number m2 known2 s2
    asked_beside = record {
      apart = λ n j k l x y is is2 names. asked.apart n j k l x y (was_here n j x is) (was_here k l y is2) names;
      each = λ map i u here st there c found. asked_so map i u here st there c (after.shows.number map) st.chart.stored (as_before map i u here st c found (beside.stood map st there));
    }
      where
        as_before : (map i : ℕ) (u : UnderWay K V K) → s2.calls map i ≡ Some u → (st : Standing K) → (c : CallThere K V) → call_of (name i) m2 ≡ Some c
            → StoodSo known known2 s s2 map st ⊎ StandsNew known known2 s s2 map → IsAsked (after.shows.number map) st.chart.stored known u c
        as_before map i u here st c found (inr newly) = absurd (let none = newly.0 i in cc (none, here))
        as_before map i u here st c found (inl stood) =
            subst (λ (f : ℕ → ℕ). IsAsked f st.chart.stored known u c) (sym (after.numbers map stood.0 stood.1))
            (subst (λ (x : Chart K). IsAsked (shown.number map) x.stored known u c) (sym stood.2)
            (asked.each map i u (was_here map i u here) stood.0 stood.1 c (ap (λ (cs : List (CallThere K V)). find (λ x. is_same x.caller (name i)) cs) (sym beside.calls) ∙ found)))
