-- A step of a call stores the pair that the call has to store, or none.
use Rattle.std.specs.Prelude.{◌≡◌, ℕ, ◌<◌, Bool, true, false, cond, eqb, List, map, Option, Some, None, if◌then◌else◌, ◌⊎◌}
use Rattle.std.proofs.Common.{refl, ap, sym, subst, ◌∙◌, arith, inl, inr}
use Rattle.std.proofs.lemmas.Bool.{ne_eqb, eq-eqb, cases_eq}
use Rattle.run_shows.specs.Given.SeizeWordsMem.{Mem, value_at}
use Rattle.run_shows.specs.Given.SeizeWorld.{World}
use Rattle.run_shows.specs.Given.TablesChunks.{is_incremental}
use Rattle.run_shows.specs.Given.TablesDeclared.node.Node.{Node}
use Rattle.run_shows.specs.Given.RawDeclared.machines.answer.Called.{Called}
use Rattle.run_shows.specs.Given.RawDeclared.machines.call.KeyCall.{KeyCall}
use Rattle.run_shows.specs.Given.RunsSame.{is_same}
use Rattle.run_shows.specs.Given.RunsDeclared.call.Call.{Call}
use Rattle.run_shows.specs.Given.RunsDeclared.call.Call.TheVariants as call
use Rattle.run_shows.specs.Given.RunsDeclared.call.OneKey.{OneKey}
use Rattle.run_shows.specs.Given.RunsDeclared.call.Reply.{Reply}
use Rattle.run_shows.specs.Given.RunsDeclared.effect.Effect.TheVariants as effect
use Rattle.run_shows.specs.Given.SchedulesEffects.{new_pair, call_by, with_effect}
use Rattle.run_shows.specs.Given.SchedulesEntry.{acting}
use Rattle.run_shows.specs.Given.SchedulesMoment.{UnderWay as CallThere, Moment}
use Rattle.run_shows.specs.Given.SchedulesSequential.{means, key_of, value_put}
use Rattle.run_shows.specs.Given.SchedulesViews.{call_of, reply_to}
use Rattle.run_shows.specs.Given.RuleChart.{Chart}
use Rattle.run_shows.specs.Given.RuleWords.{Blocks}
use Rattle.run_shows.specs.Given.RuleInWorld.{IsMapIn}
use Rattle.run_shows.proofs.Given.RuleLaws.{current_is_known}
use Rattle.run_shows.specs.Given.PointsFactsCalls.{Change, Unchanged, Stored, Replaced, Removed, Changes}
use Rattle.run_shows.specs.Given.CallersPairs.{Given, kind_of, StoresGiven}
use Rattle.run_shows.specs.Given.CallersOverAll.{CallOverAll, RemovesAsReplied}
use Rattle.run_shows.specs.Given.CallersTogether.{CallOnKey, UnderWay, OnKey, StepOutcome, Fresh, Late, change_observed, StepsTogether}
use Rattle.run_shows.specs.Given.EffectsKnown.{Known}
use Rattle.run_shows.specs.Given.FinishesMaps.{Standing}
use Rattle.run_shows.specs.Follows.Calls.{IsCalled}
use Rattle.run_shows.specs.Follows.Steps.{HasToStore}
use Rattle.run_shows.proofs.Follows.Calls.{changed_same, changed, found}
use Rattle.run_shows.proofs.Follows.Calling.{found_passes}
use Rattle.run_shows.proofs.Follows.Gives.{Gives}
use Rattle.run_places.specs.Hands.Asked.{given_by, IsAskedOn, IsAskedAs, IsAsked}
use Rattle.run_places.proofs.Hands.Done.{done}
use Rattle.run_places.proofs.Hands.Puts.{MayDo, PutsThere, puts_new, puts_over}
use Rattle.run_shows.specs.Scenes.Scene.{slot_of}

module _ {K V : Type 0} where
  -- a call that is as this one, but for the pair that it replaces, has to store what it puts
  pub to_store : (memory : Mem (Node K V)) (b : ℕ) (c d : CallThere K V) (one : OneKey K V) → d.call ≡ call.On one → (old : Option ℕ) → d.replacing ≡ old → d.replies ≡ c.replies → (n : ℕ)
      → PutsThere one c.replies old n memory b → HasToStore memory b (Some d) n
  to_store memory b c d one is old replacing replies n puts = (
    key_of one,
    puts.0,
    ap (λ (x : Call K V). new_pair x d n) is
        ∙ ap (λ (o : Option ℕ). map (λ v. (key_of one, v)) (value_put (means one (reply_to o d.replies) o n))) replacing
        ∙ ap (λ (rs : List (Option ℕ × Reply V)). map (λ v. (key_of one, v)) (value_put (means one (reply_to old rs) old n))) replies
        ∙ ap (map (λ v. (key_of one, v))) puts.1,
    puts.2,
  )

  -- the call after it has replaced a pair
  pub replacing_found : (name : List ℕ) (map p : ℕ) (m : Moment K V) (c : CallThere K V) → call_of name m ≡ Some c
      → (d : CallThere K V) × (call_of name (with_effect (Some name) (Some map) (effect.Replaced p) m) ≡ Some d) × (d.call ≡ c.call) × (d.replacing ≡ Some p) × (d.replies ≡ c.replies)
  replacing_found name map p m c is = (
    changed (call_by m (effect.Replaced p)) (changed_same m (effect.Replaced p)) name c,
    found (call_by m (effect.Replaced p)) (changed_same m (effect.Replaced p)) name name m.calls c is,
    ap (λ (x : CallThere K V). x.call) here,
    ap (λ (x : CallThere K V). x.replacing) here,
    ap (λ (x : CallThere K V). x.replies) here,
  )
    where
      here : (if is_same c.caller name then call_by m (effect.Replaced p) c else c) ≡ call_by m (effect.Replaced p) c
      here = ap (λ q. if q then call_by m (effect.Replaced p) c else c) (found_passes (λ x. is_same x.caller name) (λ x. true) m.calls c is)

module _ {K V : Type 0} (same : K → K → Bool) (standing : Standing K) (w : World (Node K V)) (is_map : IsMapIn same standing.hash standing.setting w standing.chart standing.blocks) where
  abbrev c : Chart K
  c = standing.chart

  -- what is in the map was stored
  pub current_before : (n : ℕ) → c.current n ≡ true → n < c.stored
  current_before n current = (current_is_known same standing.hash standing.setting w.memory c standing.blocks is_map.map.rule is_map.map.shows n current).0

  none_next : c.current c.stored ≡ true → ⊥
  none_next current = let l = current_before c.stored current in omega (arith, l)

  none_same : (c2 : Chart K) → c2.current ≡ c.current → c2.current c.stored ≡ true → ⊥
  none_same c2 same_pairs fresh = none_next (ap (λ (f : ℕ → Bool). f c.stored) (sym same_pairs) ∙ fresh)

  none_without : (c2 : Chart K) (n : ℕ) → c.current n ≡ true → c2.current ≡ (λ k. cond (eqb k n) false (c.current k)) → c2.current c.stored ≡ true → ⊥
  none_without c2 n current is fresh =
      none_next (sym (ap (λ (q : Bool). cond q false (c.current c.stored)) (ne_eqb c.stored n (λ e. (let l = current_before n current in omega (arith, l, e)))))
      ∙ sym (ap (λ (f : ℕ → Bool). f c.stored) is) ∙ fresh)

  module _ (map : ℕ) (name : Option (List ℕ)) (number : ℕ → ℕ) (new : ℕ) (m : Moment K V) (m2 : Mem (Node K V)) (c2 : Chart K) where
    -- a step that changes no pair of its map stores none
    pub room_gives : c2.current ≡ c.current → Gives map name number c c2 new m w.memory m2
    room_gives same_pairs = record {
      stored = λ one_more fresh others values n. absurd (none_same c2 same_pairs fresh);
      replaced = λ one_more fresh p l current gone values n. absurd (none_same c2 same_pairs fresh);
    }

    -- nor does one of a sweep
    pub sweep_gives : (o : CallOverAll) → RemovesAsReplied o c c2 → Gives map name number c c2 new m w.memory m2
    sweep_gives o (inl same_pairs) = room_gives same_pairs
    sweep_gives o (inr (n, current, is, told)) = record {
      stored = λ one_more fresh others values k. absurd (none_without c2 n current is fresh);
      replaced = λ one_more fresh p l there gone values k. absurd (none_without c2 n current is fresh);
    }

  module _ (map : ℕ) (name : List ℕ) (number : ℕ → ℕ) (apart : (n o : ℕ) → n < c.stored → o < c.stored → number n ≡ number o → n ≡ o) (m : Moment K V) (known : Known)
      (calls : ℕ → Option (UnderWay K V K)) (i : ℕ) (u : CallOnKey K V K) (there : CallThere K V) (is : call_of name m ≡ Some there) (called : IsCalled same (OnKey u) there.call)
      (asked : IsAsked number c.stored known (OnKey u) there) (m2 : Mem (Node K V)) (p2 : KeyCall K V K) (progress : Called (Node K V))
      (step : StepsTogether V same standing.hash same standing.setting slot_of w c standing.blocks standing.sights calls i u m2 p2 progress) where
    abbrev c2 : Chart K
    c2 = step.went.c2

    abbrev w2 : World (Node K V)
    w2 = step.went.w2

    abbrev new : ℕ
    new = step.went.blocks2.pair c.stored

    abbrev ChangesSo : Change → Type 0
    ChangesSo = Changes same standing.hash (is_incremental standing.setting.mode) u.keys c c2

    abbrev HasDoneAs : Change → Type 0
    HasDoneAs x = (x ≡ Unchanged) ⊎ ((blocks : Blocks) × (blocks.pair c.stored ≡ new) × MayDo (kind_of u.pair) x × StoresGiven standing.hash w2.memory c2 blocks u.pair x)

    -- what it has changed, where a pair has come
    changes_of : (told : StepOutcome V same standing.hash same standing.setting slot_of c i u p2 progress w2 c2 step.went.blocks2) → c2.current c.stored ≡ true
        → ChangesSo (change_observed V same standing.hash same standing.setting slot_of told)
    changes_of (Fresh told) fresh = elim (told.changes) as (λ _. ChangesSo told.change2) [
      | inl same_so ↦ absurd (none_same c2 same_so.1 fresh)
      | inr changes ↦ changes.1
    ]
    changes_of (Late blocking none told) fresh = absurd (none_same c2 told.same_pairs fresh)

    module _ (values : (b : ℕ) → value_at m2 b ≡ value_at w.memory b) (one : OneKey K V) (on : there.call ≡ call.On one) (its : IsAskedOn number c.stored known u one there) where
      -- what is in the block then was in it before
      in_block : (old : Option ℕ) (n b : ℕ) → b ≡ new → PutsThere one there.replies old n w2.memory b → PutsThere one there.replies old n w.memory new
      in_block old n b e puts = (
        puts.0,
        puts.1,
        sym (values new) ∙ ap (λ (x : Mem (Node K V)). value_at x new) (sym step.went.memory) ∙ ap (value_at w2.memory) (sym e) ∙ puts.2,
      )

      its_kind : (x : Change) → MayDo (kind_of u.pair) x → MayDo (kind_of (given_by one its.asked)) x
      its_kind x = subst (λ (g : Given K V). MayDo (kind_of g) x) its.given

      its_given : (blocks : Blocks) (x : Change) → StoresGiven standing.hash w2.memory c2 blocks u.pair x → StoresGiven standing.hash w2.memory c2 blocks (given_by one its.asked) x
      its_given blocks x = subst (λ (g : Given K V). StoresGiven standing.hash w2.memory c2 blocks g x) its.given

      stored_so : c2.current c.stored ≡ true → ((o : ℕ) → o < c.stored → c2.current o ≡ c.current o) → (n : ℕ) → (x : Change) → ChangesSo x → HasDoneAs x → HasToStore w.memory new (acting (Some name) m) n
      stored_so fresh others n Unchanged changes has = absurd (none_same c2 changes fresh)
      stored_so fresh others n (Stored k) changes (inl none) = absurd (cc none)
      stored_so fresh others n (Stored k) changes (inr (blocks, b_is, may, has)) =
          subst (λ (x : Option (CallThere K V)). HasToStore w.memory new x n) (sym is)
          (to_store w.memory new there there one on None its.replacing refl n
          (in_block None n (blocks.pair k) (ap blocks.pair changes.0 ∙ b_is)
          (puts_new standing.hash number c.stored apart w2.memory c2 blocks its.asked there.replies its.replies n one its.first k (its_kind (Stored k) may) (its_given blocks (Stored k) has))))
      stored_so fresh others n (Replaced o k) changes has =
          absurd (let l = current_before o changes.1.0 in let k_is = changes.0 in
          let gone : c2.current o ≡ false = ap (λ (f : ℕ → Bool). f o) changes.2
          ∙ ap (λ (q : Bool). cond q true (cond (eqb o o) false (c.current o))) (ne_eqb o k (λ e. omega (arith, l, e, k_is))) ∙ ap (λ (q : Bool). cond q false (c.current o)) (eq-eqb o o refl) in
          let still = others o l in let was = changes.1.0 in cc (gone, still, was))
      stored_so fresh others n (Removed o) changes has = absurd (none_without c2 o changes.0.0 changes.1 fresh)

      replaced_so : c2.current c.stored ≡ true → (p : ℕ) → p < c.stored → c.current p ≡ true → c2.current p ≡ false → (n : ℕ) → (x : Change) → ChangesSo x → HasDoneAs x
          → HasToStore w.memory new (acting (Some name) (with_effect (Some name) (Some map) (effect.Replaced (number p)) m)) n
      replaced_so fresh p l current gone n Unchanged changes has = absurd (none_same c2 changes fresh)
      replaced_so fresh p l current gone n (Stored k) changes has =
          absurd (let k_is = changes.0 in
          let still : c2.current p ≡ c.current p = ap (λ (f : ℕ → Bool). f p) changes.2 ∙ ap (λ (q : Bool). cond q true (c.current p)) (ne_eqb p k (λ e. omega (arith, l, e, k_is))) in cc (still, current, gone))
      replaced_so fresh p l current gone n (Replaced o k) changes (inl none) = absurd (cc none)
      replaced_so fresh p l current gone n (Replaced o k) changes (inr (blocks, b_is, may, has)) =
          let d = replacing_found name map (number p) m there is in
          subst (λ (x : Option (CallThere K V)). HasToStore w.memory new x n) (sym d.1)
          (to_store w.memory new there d.0 one (d.2 ∙ on) (Some (number p)) d.3 d.4 n
          (in_block (Some (number p)) n (blocks.pair k) (ap blocks.pair changes.0 ∙ b_is)
          (subst (λ (x : ℕ). PutsThere one there.replies (Some (number x)) n w2.memory (blocks.pair k)) (sym p_is)
          (puts_over standing.hash number c.stored apart w2.memory c2 blocks its.asked there.replies its.replies n one o k (current_before o changes.1.0) (its_kind (Replaced o k) may) (its_given blocks (Replaced o k) has)))))
        where
          p_is : p ≡ o
          p_is = elim (cases_eq p o) as (λ _. p ≡ o) [
            | inl e ↦ e
            | inr ne ↦
                absurd (let k_is = changes.0 in
                let still : c2.current p ≡ c.current p = ap (λ (f : ℕ → Bool). f p) changes.2 ∙ ap (λ (q : Bool). cond q true (cond (eqb p o) false (c.current p))) (ne_eqb p k (λ e. omega (arith, l, e, k_is)))
                ∙ ap (λ (q : Bool). cond q false (c.current p)) (ne_eqb p o ne) in cc (still, current, gone))
          ]
      replaced_so fresh p l current gone n (Removed o) changes has = absurd (none_without c2 o changes.0.0 changes.1 fresh)

    -- so it is for each call on one key
    pub key_gives : Gives map (Some name) number c c2 new m w.memory m2
    key_gives = by there.call refl called asked
      where
        change : Change
        change = change_observed V same standing.hash same standing.setting slot_of step.went.told

        by : (x : Call K V) → there.call ≡ x → IsCalled same (OnKey u) x → IsAskedAs number c.stored known u x there → Gives map (Some name) number c c2 new m w.memory m2
        by (call.On one) on called its = record {
          stored = λ one_more fresh others values n.
              stored_so values one on its fresh others n _ (changes_of step.went.told fresh)
              (done same standing.hash same standing.setting slot_of w c standing.blocks standing.sights calls i u m2 p2 progress step);
          replaced = λ one_more fresh p l current gone values n.
              replaced_so values one on its fresh p l current gone n _ (changes_of step.went.told fresh)
              (done same standing.hash same standing.setting slot_of w c standing.blocks standing.sights calls i u m2 p2 progress step);
        }
        by (call.Reserve additional) on called its = absurd called
        by call.Clear on called its = absurd called
        by call.Retain on called its = absurd called
        by call.Len on called its = absurd called
        by call.Walk on called its = absurd called
