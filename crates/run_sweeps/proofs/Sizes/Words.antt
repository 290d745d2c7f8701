-- The words of maps' counts: below 2 ^ 64, and 0 of a number that no map has had yet. An event changes one of its map's at most.
use Rattle.std.specs.Prelude.{◌≡◌, ◌≢◌, ℕ, ◌%◌, ◌^◌, ◌<◌, ◌≤◌, ◌⊎◌, Bool, true, false, List, [], ◌∷◌, Option, Some, None, if◌then◌else◌}
use Rattle.std.proofs.Common.{refl, ap, sym, subst, ◌∙◌, arith, inl, inr}
use Rattle.std.proofs.lemmas.Bool.{cases_eq}
use Rattle.run_finds.specs.Given.RunsPresent.{slot_of_guard}
use Rattle.run_finds.specs.Given.RunsSame.{is_same}
use Rattle.run_finds.specs.Given.RunsDeclared.call.Call.{Call}
use Rattle.run_finds.specs.Given.RunsDeclared.call.Call.TheVariants as call
use Rattle.run_finds.specs.Given.RunsDeclared.effect.Effect.{Effect}
use Rattle.run_finds.specs.Given.RunsDeclared.effect.Effect.TheVariants as effect
use Rattle.run_finds.specs.Given.RunsDeclared.event.Event.{Event}
use Rattle.run_finds.specs.Given.RunsDeclared.event.Event.TheVariants as event
use Rattle.run_finds.specs.Given.RunsDeclared.outcome.Outcome.{Outcome}
use Rattle.run_finds.specs.Given.RunsDeclared.outcome.Outcome.TheVariants as outcome
use Rattle.run_finds.specs.Given.SchedulesBeginning.{begun, with_call}
use Rattle.run_finds.specs.Given.SchedulesEffects.{AtEachEffect, call_by, due_for, shards_by, with_effect, with_effects, word_with}
use Rattle.run_finds.specs.Given.SchedulesEntry.{ByCall, IfCall, acting, is_busy, nameless}
use Rattle.run_finds.specs.Given.SchedulesGrowing.{only_looks}
use Rattle.run_finds.specs.Given.SchedulesLists.{put}
use Rattle.run_finds.specs.Given.SchedulesLives.{CallFinds, Finds}
use Rattle.run_finds.specs.Given.SchedulesMoment.{UnderWay, Moment}
use Rattle.run_finds.specs.Given.SchedulesTerms.{Terms, shards_of}
use Rattle.run_finds.specs.Given.SchedulesViews.{call_of, number_of}
use Rattle.run_finds.proofs.Given.FollowsAlike.{put_here, put_elsewhere}
use Rattle.run_finds.proofs.Given.ChangesChanges.{acted_on}
use Rattle.run_finds.specs.Within.{AllIsInOrder}
use Rattle.run_finds.proofs.Grown.{found_of}
use Rattle.run_sweeps.proofs.Sizes.Beginning.{calls_below_made}

-- words of maps, of which so many were made
pub record AreWords (made : ℕ) (shards : ℕ → ℕ → ℕ) : Type 0 where
  pub small : (k s : ℕ) → shards k s < 2 ^ 64
  pub blank : (k s : ℕ) → made ≤ k → shards k s ≡ 0

module _ {K V : Type 0} where
  word_small : (c : UnderWay K V) (word : ℕ) → word_with c word < 2 ^ 64
  word_small c word = omega arith

  counted_words : (made : ℕ) (c : UnderWay K V) (s : ℕ) (shards : ℕ → ℕ → ℕ) → c.map < made → AreWords made shards → AreWords made (shards_by (Some c) (effect.Counted s) shards)
  counted_words made c s shards below words = record { small = λ k j. small k j (cases_eq k c.map); blank = λ k j past. blank k j past (cases_eq k c.map) }
    where
      word : ℕ
      word = word_with c (shards c.map s)

      new : ℕ → ℕ
      new = put s word (shards c.map)

      its_small : (j : ℕ) → (j ≡ s) ⊎ (j ≢ s) → new j < 2 ^ 64
      its_small j (inl e) = subst (λ (n : ℕ). n < 2 ^ 64) (sym (put_here s word (shards c.map) j e)) (word_small c (shards c.map s))
      its_small j (inr ne) = subst (λ (n : ℕ). n < 2 ^ 64) (sym (put_elsewhere s word (shards c.map) j ne)) (words.small c.map j)

      small : (k j : ℕ) → (k ≡ c.map) ⊎ (k ≢ c.map) → put c.map new shards k j < 2 ^ 64
      small k j (inl e) = subst (λ (f : ℕ → ℕ). f j < 2 ^ 64) (sym (put_here c.map new shards k e)) (its_small j (cases_eq j s))
      small k j (inr ne) = subst (λ (f : ℕ → ℕ). f j < 2 ^ 64) (sym (put_elsewhere c.map new shards k ne)) (words.small k j)

      blank : (k j : ℕ) → made ≤ k → (k ≡ c.map) ⊎ (k ≢ c.map) → put c.map new shards k j ≡ 0
      blank k j past (inl e) = absurd (omega (arith, past, e, below))
      blank k j past (inr ne) = ap (λ (f : ℕ → ℕ). f j) (put_elsewhere c.map new shards k ne) ∙ words.blank k j past

  words_by : (made : ℕ) (o : Option (UnderWay K V)) (f : Effect) (shards : ℕ → ℕ → ℕ) → IfCall (λ c. c.map < made) o → AreWords made shards → AreWords made (shards_by o f shards)
  words_by made None f shards below words = words
  words_by made (Some c) (effect.Counted s) shards below words = counted_words made c s shards below words
  words_by made (Some c) _ shards below words = words

  if_found : (P : UnderWay K V → Type 0) (o : Option (UnderWay K V)) → ((c : UnderWay K V) → o ≡ Some c → P c) → IfCall P o
  if_found P None so = tt
  if_found P (Some c) so = so c refl

  -- an effect leaves them such words
  pub one_words : (caller : Option (List ℕ)) (acted : Option ℕ) (m : Moment K V) (f : Effect) → AllIsInOrder m → AreWords m.made m.shards → AreWords m.made (with_effect caller acted f m).shards
  one_words caller acted m f h words = words_by m.made (acting caller m) f m.shards (its caller) words
    where
      its : (who : Option (List ℕ)) → IfCall (λ (c : UnderWay K V). c.map < m.made) (acting who m)
      its None = tt
      its (Some own) =
          if_found (λ (c : UnderWay K V). c.map < m.made) (call_of own m)
          (λ c is. (found_of (λ (d : UnderWay K V). is_same d.caller own) (λ (d : UnderWay K V). d.map < m.made) m.calls c (calls_below_made m h) is).1)

  -- so does what an event begins
  called_shards : (own guard : List ℕ) (its : Call K V) (number : Option ℕ) (m : Moment K V) → (with_call own guard its number m).shards ≡ m.shards
  called_shards own guard its None m = refl
  called_shards own guard its (Some n) m = refl

  pub begun_shards : (its : Event K V) (came : Outcome V) (m : Moment K V) → (begun its came m).shards ≡ m.shards
  begun_shards (event.Begin caller guard name call) outcome.Goes m = called_shards caller guard call (number_of name m) m
  begun_shards (event.OneCall guard name call) came m = by (is_busy came)
    where
      by : (q : Bool) → (if q then m else with_call nameless guard call (number_of name m) m).shards ≡ m.shards
      by true = refl
      by false = called_shards nameless guard call (number_of name m) m
  begun_shards (event.MakeMap name mode capacity) outcome.Done m = refl
  begun_shards _ _ m = refl

  called_made : (own guard : List ℕ) (its : Call K V) (number : Option ℕ) (m : Moment K V) → (with_call own guard its number m).made ≡ m.made
  called_made own guard its None m = refl
  called_made own guard its (Some n) m = refl

  begun_made : (its : Event K V) (came : Outcome V) (m : Moment K V) → m.made ≤ (begun its came m).made
  begun_made (event.Begin caller guard name call) outcome.Goes m = let same = called_made caller guard call (number_of name m) m in omega (arith, same)
  begun_made (event.OneCall guard name call) came m = by (is_busy came)
    where
      by : (q : Bool) → m.made ≤ (if q then m else with_call nameless guard call (number_of name m) m).made
      by true = omega arith
      by false = let same = called_made nameless guard call (number_of name m) m in omega (arith, same)
  begun_made (event.MakeMap name mode capacity) outcome.Done m = omega arith
  begun_made _ _ m = omega arith

  pub begun_words : (its : Event K V) (came : Outcome V) (m : Moment K V) → AreWords m.made m.shards → AreWords (begun its came m).made (begun its came m).shards
  begun_words its came m words =
      subst (AreWords (begun its came m).made) (sym (begun_shards its came m))
      (record { small = words.small; blank = λ k s past. words.blank k s (let more = begun_made its came m in omega (arith, past, more)) })

  -- a call counts in one shard

  due_guard : (its : Call K V) (c : UnderWay K V) (old : Option ℕ) (new : ℕ) → (due_for its c old new).guard ≡ c.guard
  due_guard (call.On one) c old new = refl
  due_guard (call.Reserve more) c old new = refl
  due_guard call.Clear c old new = refl
  due_guard call.Retain c old new = refl
  due_guard call.Len c old new = refl
  due_guard call.Walk c old new = refl

  same_guard : (m : Moment K V) (f : Effect) (c : UnderWay K V) → (call_by m f c).guard ≡ c.guard
  same_guard m (effect.Stored n s) c = due_guard c.call c c.replacing n
  same_guard m (effect.Removed p) c = due_guard c.call c (Some p) _
  same_guard m _ c = refl

  module _ (terms : Terms) (everything : Bool) (moments : List (Moment K V)) (own : List ℕ) (acted : Option ℕ) (guard : List ℕ) (shard : ℕ) where
    -- it is that of its guard's slot
    abbrev Counts : Moment K V → Type 0
    Counts m = slot_of_guard guard m.there % shards_of terms ≡ shard

    abbrev FindsOwn : Moment K V → Effect → Type 0
    FindsOwn m f = Finds terms (Some own) acted everything moments m f

    one_shard : (m : Moment K V) (f : Effect) (c : UnderWay K V) → call_of own m ≡ Some c → c.guard ≡ guard → Counts m → FindsOwn m f → (k j : ℕ) → j ≢ shard → (with_effect (Some own) acted f m).shards k j ≡ m.shards k j
    one_shard m f c is guards counts_in finds k j ne = ap (λ (o : Option (UnderWay K V)). shards_by o f m.shards k j) is ∙ by f (subst (ByCall (λ d. (only_looks d.call ≡ false) × CallFinds terms moments m f d)) is finds).1
      where
        by : (f : Effect) → CallFinds terms moments m f c → shards_by (Some c) f m.shards k j ≡ m.shards k j
        by (effect.Counted s) its = of (cases_eq k c.map)
          where
            here : s ≡ shard
            here = its.1 ∙ ap (λ (g : List ℕ). slot_of_guard g m.there % shards_of terms) guards ∙ counts_in

            new : ℕ → ℕ
            new = put s (word_with c (m.shards c.map s)) (m.shards c.map)

            of : (k ≡ c.map) ⊎ (k ≢ c.map) → put c.map new m.shards k j ≡ m.shards k j
            of (inl e) = ap (λ (g : ℕ → ℕ). g j) (put_here c.map new m.shards k e) ∙ put_elsewhere s _ (m.shards c.map) j (λ at. ne (at ∙ here)) ∙ ap (λ (i : ℕ). m.shards i j) (sym e)
            of (inr other) = ap (λ (g : ℕ → ℕ). g j) (put_elsewhere c.map new m.shards k other)
        by _ its = refl

    pub all_shard : (effects : List Effect) (m : Moment K V) (c : UnderWay K V) → call_of own m ≡ Some c → c.guard ≡ guard → Counts m → AtEachEffect FindsOwn (Some own) acted effects m → (k j : ℕ) → j ≢ shard
        → (with_effects (Some own) acted effects m).shards k j ≡ m.shards k j
    all_shard [] m c is guards counts_in finds k j ne = refl
    all_shard (f ∷ effects) m c is guards counts_in finds k j ne =
        all_shard effects (with_effect (Some own) acted f m) (call_by m f c) (acted_on own 0 f m c is) (same_guard m f c ∙ guards) counts_in finds.1 k j ne ∙ one_shard m f c is guards counts_in finds.0 k j ne
