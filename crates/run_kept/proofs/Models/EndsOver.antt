-- The end of a map is over: what is behind a table has left the waiting sets of blocks just where it has left those of the model.
use Rattle.std.specs.Prelude.{◌⊎◌, ◌==◌, ◌||◌, ◌<◌, ◌^◌, not, cond, map, flat_map, None, IsSome}
use Rattle.std.specs.List.{AllByRecursion}
use Rattle.std.proofs.Common.{◌≡◌, ℕ, Bool, true, false, List, [], ◌∷◌, ◌++◌, inl, inr, refl, ap, sym, subst, eqb-true, ◌∙◌}
use Rattle.std.proofs.lemmas.Bool.{eq-eqb}
use Rattle.std.proofs.lemmas.List.Concat.{flat_map-cons}
use Rattle.run_schedules.specs.Given.SeizeWordsMem.{value_at}
use Rattle.seize.specs.WaitingSets.{Change, Ends, Further, Sets, After, all_changed, is_one_of, at_start as sets_at_start}
use Rattle.seize.specs.World.{World, LeftTo}
use Rattle.run_executor.specs.Given.SeizeWaitingChanges.{kept, with_further}
use Rattle.run_executor.specs.Given.SeizeWaitingHeld.{Every}
use Rattle.run_executor.proofs.Given.SeizeWaitingLaws.{ends_leave}
use Rattle.run_executor.proofs.Given.SeizeSetsTurns.Append.{changed_append}
use Rattle.papaya_raw.specs.Given.TablesNodes.{deferred_word}
use Rattle.papaya_raw.specs.Given.TablesDeclared.node.Node.{Node}
use Rattle.run_schedules.specs.Schedules.After.{tables_taken}
use Rattle.run_schedules.specs.Schedules.Lists.{is_in}
use Rattle.run_schedules.specs.Schedules.Model.{number_in, handing}
use Rattle.run_schedules.specs.Schedules.Moment.{Moment}
use Rattle.run_schedules.specs.Schedules.Things.{same_table}
use Rattle.run_schedules.specs.declared.effect.Effect.{Effect}
use Rattle.run_schedules.specs.declared.effect.Effect.TheVariants as effect
use Rattle.run_schedules.specs.declared.effect.TableId.{TableId}
use Rattle.run_schedules.specs.declared.effect.Thing.{Thing}
use Rattle.run_schedules.specs.declared.effect.Thing.TheVariants.{ATable}
use Rattle.run_executor.specs.Given.EffectsKnown.{Known}
use Rattle.run_executor.specs.Given.EffectsDeclared.role.Role.{Role}
use Rattle.run_executor.specs.Given.EffectsDeclared.role.Role.TheVariants as role
use Rattle.run_executor.specs.Given.FollowsBlocks.{HasRole, RefinesBlocks}
use Rattle.run_executor.proofs.Given.MomentsOnSlots.{none_some}
use Rattle.run_blocks.specs.Given.PromisesSheltered.{IsOfThing}
use Rattle.run_blocks.proofs.Given.PromisesShelters.Rows.{things_are}
use Rattle.run_kept.specs.Models.Alike.{FurtherAlike, SetsAlike}
use Rattle.run_kept.specs.Models.Calls.{sets_on}
use Rattle.run_kept.specs.Models.Ends.{WasTaken, FollowsInEnd, NoTableIsLeft, EndsEnd}
use Rattle.run_kept.specs.Models.Follows.{FollowsSets}
use Rattle.run_kept.specs.Models.Numbers.{HasNumber, EachIsOnce}
use Rattle.run_kept.specs.Models.Others.{HandsNone, HandNone}
use Rattle.run_kept.specs.Models.Turns.{sets_of}
use Rattle.run_kept.proofs.Models.Alike.Again.{alike_again}
use Rattle.run_kept.proofs.Models.Numbers.{numbers_once, one_thing}
use Rattle.run_kept.proofs.Models.Turns.{all_there}

module _ (things : List Thing) where
  abbrev number : TableId → ℕ
  number t = number_in things (ATable t)

  -- what hands nothing over changes the sets by the tables that are taken alone
  handing_ends : (slot : ℕ) (effects : List Effect) → HandNone effects → flat_map (handing things slot) effects ≡ map (λ b. Ends b) (map number (flat_map tables_taken effects))
  handing_ends slot [] all = refl
  handing_ends slot (e ∷ effects) all =
      flat_map-cons (handing things slot) e effects ∙ by e all.0 (handing_ends slot effects all.1) ∙ ap (λ (ts : List TableId). map (λ (b : ℕ). Ends b) (map number ts)) (sym (flat_map-cons tables_taken e effects))
    where
      by : (e : Effect) → HandsNone e → flat_map (handing things slot) effects ≡ map (λ b. Ends b) (map number (flat_map tables_taken effects))
          → handing things slot e ++ flat_map (handing things slot) effects ≡ map (λ b. Ends b) (map number (tables_taken e ++ flat_map tables_taken effects))
      by (effect.Retired x) is ih = absurd is
      by (effect.Deferred n t) is ih = absurd is
      by (effect.Taken t) is ih = ap (λ (cs : List Change). Ends (number t) ∷ cs) ih
      by _ is ih = ih

  -- the number of one that was taken is among theirs
  number_there : (t : TableId) (ts : List TableId) → is_in same_table t ts ≡ true → is_one_of (number t) (map number ts) ≡ true
  number_there t [] is = absurd (cc is)
  number_there t (u ∷ ts) is = by (same_table t u) refl is (number_there t ts)
    where
      later : (q : Bool) → is_one_of (number t) (map number ts) ≡ true → (q || is_one_of (number t) (map number ts)) ≡ true
      later true e = refl
      later false e = e

      by : (q : Bool) → same_table t u ≡ q → (q || is_in same_table t ts) ≡ true → (is_in same_table t ts ≡ true → is_one_of (number t) (map number ts) ≡ true)
          → ((number t == number u) || is_one_of (number t) (map number ts)) ≡ true
      by true e is ih = ap (λ (q : Bool). q || is_one_of (number t) (map number ts)) (eq-eqb (number t) (number u) (ap (number_in things) (things_are (ATable t) (ATable u) e)))
      by false e is ih = later (number t == number u) (ih is)

  -- and one among these is of one that was taken
  taken_there : (P : TableId → Type 0) (k : ℕ) (ts : List TableId) → AllByRecursion P ts → is_one_of k (map number ts) ≡ true → (t : TableId) × P t × (k ≡ number t)
  taken_there P k [] all is = absurd (cc is)
  taken_there P k (t ∷ ts) all is = by (k == number t) refl is (taken_there P k ts all.1)
    where
      by : (q : Bool) → (k == number t) ≡ q → (q || is_one_of k (map number ts)) ≡ true → (is_one_of k (map number ts) ≡ true → (u : TableId) × P u × (k ≡ number u))
          → (u : TableId) × P u × (k ≡ number u)
      by true e is ih = (t, all.0, eqb-true k (number t) e)
      by false e is ih = ih is

module _ {K V : Type 0} (batch_size roots : ℕ) (things : List Thing) (sets : Sets) (first : Known) (i : ℕ) (done : List Effect) (known : Known) (w : World (Node K V)) (small : batch_size < 2 ^ 64)
    (once : EachIsOnce first) (r : FollowsInEnd batch_size roots things sets first i done known w) (m : Moment K V) (blocks : RefinesBlocks m known w) (no_table : NoTableIsLeft known i w)
    (slot : ℕ) where
  abbrev then_sets : Sets
  then_sets = sets_of batch_size r.before

  abbrev told : List ℕ
  told = map (number things) (flat_map tables_taken done)

  abbrev There : Further → Type 0
  There f = IsSome (value_at w.memory f.number) × IsSome (value_at w.memory f.behind)

  abbrev WasTable : Further → Type 0
  WasTable f = (t : TableId) × (len : ℕ) × (first.roles f.behind ≡ role.Table t len)

  -- a table that is left over, or gone, was taken away
  now_free : (b len : ℕ) (t : TableId) → first.roles b ≡ role.Table t len → is_one_of b r.ended ≡ true → known.roles b ≡ role.Free
  now_free b len t was is = by (r.noted b) (r.left b is)
    where
      by : (known.roles b ≡ first.roles b) ⊎ (known.roles b ≡ role.Free) → (w.hand b ≡ LeftTo i) ⊎ (value_at w.memory b ≡ None) → known.roles b ≡ role.Free
      by (inr free) left = free
      by (inl same) (inl left) = absurd (no_table b len t (same ∙ was) left)
      by (inl same) (inr gone) =
          absurd (let has : HasRole w m.stored b (role.Table t len) = subst (λ (q : Role). HasRole w m.stored b q) (same ∙ was) (blocks.roles b) in let there = has.1 in cc (there, gone))

  not_gone : (b : ℕ) → IsSome (value_at w.memory b) → known.roles b ≡ role.Free → ⊥
  not_gone b some free = none_some (value_at w.memory b) some (subst (λ (q : Role). HasRole w m.stored b q) free (blocks.roles b))

  -- what is behind a block is kept, as is what is behind its number
  gone_both : (f g : Further) → WasTable f → HasNumber first things f.behind g.behind → is_one_of f.behind r.ended ≡ true → is_one_of g.behind told ≡ true
  gone_both f g (t, len, was) (x, of, came, num) is =
      let same : x ≡ ATable t = one_thing x (ATable t) (first.roles f.behind) of (len, was) in
      subst (λ (k : ℕ). is_one_of k told ≡ true) (ap (number_in things) (sym same) ∙ num)
      (number_there things t (flat_map tables_taken done) (r.told f.behind len t was (now_free f.behind len t was is)))

  kept_both : (f g : Further) → HasNumber first things f.behind g.behind → IsSome (value_at w.memory f.behind) → is_one_of g.behind told ≡ true → ⊥
  kept_both f g (x, of, came, num) some is =
      let (t, (b, len, was, free), e) = taken_there things (WasTaken first known) g.behind (flat_map tables_taken done) r.taken is in
      let same : x ≡ ATable t = numbers_once things x (ATable t) came (num ∙ e) in
      let here : f.behind ≡ b = once f.behind b (ATable t) (subst (λ (y : Thing). IsOfThing y (first.roles f.behind)) same of) (len, was) in
      not_gone f.behind some (ap known.roles here ∙ free)

  same_place : (f g : Further) → WasTable f → HasNumber first things f.behind g.behind → (is_one_of f.behind r.ended ≡ false → IsSome (value_at w.memory f.behind))
      → is_one_of g.behind told ≡ is_one_of f.behind r.ended
  same_place f g table has there = by (is_one_of f.behind r.ended) refl
    where
      none : (q : Bool) → is_one_of g.behind told ≡ q → is_one_of f.behind r.ended ≡ false → q ≡ false
      none true e out = absurd (kept_both f g has (there out) e)
      none false e out = refl

      by : (q : Bool) → is_one_of f.behind r.ended ≡ q → is_one_of g.behind told ≡ is_one_of f.behind r.ended
      by true e = gone_both f g table has e ∙ sym e
      by false e = none (is_one_of g.behind told) refl e ∙ sym e

  kept_alike : (fs gs : List Further) → FurtherAlike (HasNumber first things) fs gs → Every WasTable fs → Every There (kept r.ended fs)
      → FurtherAlike (HasNumber first things) (kept r.ended fs) (kept told gs)
  kept_alike [] [] h t there = tt
  kept_alike [] (g ∷ gs) h t there = absurd h
  kept_alike (f ∷ fs) [] h t there = absurd h
  kept_alike (f ∷ fs) (g ∷ gs) h t there = by (is_one_of f.behind r.ended) refl there (kept_alike fs gs h.2 t.1)
    where
      by : (q : Bool) → is_one_of f.behind r.ended ≡ q → Every There (cond (not q) (f ∷ kept r.ended fs) (kept r.ended fs))
          → (Every There (kept r.ended fs) → FurtherAlike (HasNumber first things) (kept r.ended fs) (kept told gs))
          → FurtherAlike (HasNumber first things) (cond (not q) (f ∷ kept r.ended fs) (kept r.ended fs)) (cond (not (is_one_of g.behind told)) (g ∷ kept told gs) (kept told gs))
      by true e still ih =
          subst (λ (q : Bool). FurtherAlike (HasNumber first things) (kept r.ended fs) (cond (not q) (g ∷ kept told gs) (kept told gs)))
          (sym (same_place f g t.0 h.1 (λ out. absurd (cc (e, out))) ∙ e)) (ih still)
      by false e still ih =
          subst (λ (q : Bool). FurtherAlike (HasNumber first things) (f ∷ kept r.ended fs) (cond (not q) (g ∷ kept told gs) (kept told gs)))
          (sym (same_place f g t.0 h.1 (λ out. still.0.1) ∙ e)) (h.0, h.1, ih still.1)

  -- the sets of blocks are these by now, and those of the model are those
  blocks_now : sets_of batch_size (r.before ++ map (λ b. Ends b) r.ended) ≡ with_further then_sets (kept r.ended then_sets.further)
  blocks_now =
      ap (λ (a : After). a.sets) (changed_append batch_size r.before (map (λ b. Ends b) r.ended) sets_at_start) ∙ ap (λ (a : After). a.sets) (ends_leave batch_size r.ended then_sets).0

  model_now : sets_on batch_size things slot done sets ≡ with_further sets (kept told sets.further)
  model_now =
      ap (λ (cs : List Change). (all_changed batch_size cs sets).sets) (handing_ends things slot done r.hands) ∙ ap (λ (a : After). a.sets) (ends_leave batch_size told sets).0

  kept_there : Every There (kept r.ended then_sets.further)
  kept_there =
      subst (λ (x : Sets). Every There x.further) blocks_now (all_there deferred_word batch_size roots small w (r.before ++ map (λ b. Ends b) r.ended) r.came).puts

  alike_now : SetsAlike (HasNumber first things) (with_further then_sets (kept r.ended then_sets.further)) (with_further sets (kept told sets.further))
  alike_now = record {
    opens = r.alike.opens;
    closes = r.alike.closes;
    actives = r.alike.actives;
    used = r.alike.used;
    puts = kept_alike then_sets.further sets.further r.alike.puts r.tables kept_there;
  }

  -- what is there has its number still
  still : (b n : ℕ) → IsSome (value_at w.memory b) → HasNumber first things b n → HasNumber known things b n
  still b n some h = by (r.noted b)
    where
      by : (known.roles b ≡ first.roles b) ⊎ (known.roles b ≡ role.Free) → HasNumber known things b n
      by (inl same) = (h.0, subst (IsOfThing h.0) (sym same) h.1, h.2, h.3)
      by (inr free) = absurd (not_gone b some free)

  pub over : FollowsSets batch_size roots things (sets_on batch_size things slot done sets) known w
  over = record {
    before = r.before ++ map (λ b. Ends b) r.ended;
    came = r.came;
    alike =
        subst (λ (x : Sets). SetsAlike (HasNumber known things) (sets_of batch_size (r.before ++ map (λ b. Ends b) r.ended)) x) (sym model_now)
        (alike_again (HasNumber first things) (HasNumber known things) (λ b. IsSome (value_at w.memory b)) still
        (sets_of batch_size (r.before ++ map (λ b. Ends b) r.ended)) (with_further sets (kept told sets.further))
        (all_there deferred_word batch_size roots small w (r.before ++ map (λ b. Ends b) r.ended) r.came)
        (subst (λ (x : Sets). SetsAlike (HasNumber first things) x (with_further sets (kept told sets.further))) (sym blocks_now) alike_now));
  }

pub ends_end : (K V : Type 0) → EndsEnd K V
ends_end K V batch_size roots things sets first i done known w small once r m blocks no_table slot =
    over batch_size roots things sets first i done known w small once r m blocks no_table slot
