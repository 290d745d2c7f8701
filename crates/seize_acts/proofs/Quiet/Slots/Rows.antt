-- A row within reclaiming all takes its steps: it never waits, and what it hands out was retired.
use Rattle.std.specs.Prelude.{Option}
use Rattle.std.proofs.Common.{◌≡◌, ℕ, zero, suc, ◌+◌, true, List, [], ◌∷◌, ◌++◌, refl, ap, sym, subst, ◌∙◌}
use Rattle.std.proofs.lemmas.List.{append-nil}
use Rattle.seize_words.specs.OneMemory.Mem.{Mem, Took, value_at}
use Rattle.seize_words.specs.OneMemory.Plan.{Steps}
use Rattle.seize.specs.declared.states.TheConstants.{LAST_SLOT}
use Rattle.seize.specs.declared.rows.leave.Leave.{Leave}
use Rattle.seize.specs.declared.rows.settle.Settle.{Settle}
use Rattle.seize.specs.declared.rows.settle.Settled.TheVariants as settled
use Rattle.seize.specs.Leave.{leave_plan}
use Rattle.seize.specs.Law.{Effect, Taken, IsSound, is_retired}
use Rattle.seize.specs.Sequence.{Calls, taken_in}
use Rattle.seize.specs.Settle.{settle_plan}
use Rattle.seize.specs.World.{World, Row, Rests, Settles, Leaves, Request, Steps'}
use Rattle.seize_model.proofs.Given.SeizeRuleRows.Effects.{IsOneStep}
use Rattle.seize_model.proofs.Given.SeizeRuleRows.Taken.{TellsTaken}
use Rattle.seize_model.proofs.Given.SeizeRuleWorld.Kept.{row_may}
use Rattle.seize_model.proofs.Given.SeizeRuleWorld.Rested.{Lone, begins_lone, steps_lone}
use Rattle.seize_model.specs.Ends.Holders.{has_batch}
use Rattle.seize_model.specs.Alone.Alone.{TakesSteps}
use Rattle.seize_model.proofs.Alone.Whole.Midway.{taken_append}
use Rattle.seize_model.proofs.Alone.Whole.Register.{steps_more, steps_end}
use Rattle.seize_acts.specs.Acts.Answers.{Grant}
use Rattle.seize_acts.specs.Acts.Waits.{Waits}
use Rattle.seize_acts.proofs.Acts.Steps.{steps_so}
use Rattle.seize_acts.proofs.Acts.Waits.{row_waits}
use Rattle.seize_acts.proofs.Quiet.Slots.Came.{came_reached, taken_gone}
use Rattle.seize_acts.specs.Quiet.Slots.{Came, AllRest, Within, SlotsOutcome}
use Rattle.seize_acts.proofs.Quiet.Slots.Facts.{rested_by, held_by}
use Rattle.seize_words.proofs.General.{some_is}

-- what is taken was retired
one_taken : (effects log : List Effect) (b : ℕ) → IsOneStep effects → taken_in effects ≡ b ∷ [] → IsSound (effects ++ log) → is_retired b log ≡ true
one_taken [] log b one e sound = absurd (cc e)
one_taken (Taken c ∷ []) log b one e sound = subst (λ (x : ℕ). is_retired x log ≡ true) (let k : c ≡ b = cc e in k) sound.0
one_taken (e ∷ f ∷ effects) log b one k sound = absurd one
one_taken (e ∷ []) log b one k sound = absurd (cc k)

module _ {T : Type 0} (defers : T → Option ℕ) (size : ℕ) (w : World T) (m2 : Mem T) (effects : List Effect) (w2 : World T) (logged : w2.log ≡ effects ++ w.log) where
  -- it has taken no block
  pub goes_told : taken_in effects ≡ [] → SlotsOutcome w w2 settled.Goes
  goes_told none = ap taken_in logged ∙ taken_append effects w.log ∙ ap (λ (l : List ℕ). taken_in w.log ++ l) none ∙ append-nil (taken_in w.log)

  -- or one
  pub gave_told : Came defers size w2 → IsOneStep effects → w2.memory ≡ m2 → (value : T) → TellsTaken w.memory m2 effects (settled.Gave value) → SlotsOutcome w w2 (settled.Gave value)
  gave_told came one memory value (b, took, was, gone) =
      let good = (came_reached defers size w2 came).good in
      let sound : IsSound (effects ++ w.log) = subst (λ (l : List Effect). IsSound l) (good.logged ∙ logged) good.inv.logged.sound in (
        b,
        was,
        one_taken effects w.log b one took sound,
        ap (λ (m : Mem T). value_at m b) (memory ∙ gone) ∙ taken_gone w.memory b (some_is (value_at w.memory b) value was),
        ap taken_in logged ∙ taken_append effects w.log ∙ ap (λ (l : List ℕ). taken_in w.log ++ l) took,
      )

module _ {T : Type 0} (defers : T → Option ℕ) (size i : ℕ) where
  takes_lone : (steps : ℕ) (u w : World T) → Lone defers (LAST_SLOT + 1) size i u → TakesSteps defers steps i u w → Lone defers (LAST_SLOT + 1) size i w
  takes_lone zero u w lone h = subst (λ (x : World T). Lone defers (LAST_SLOT + 1) size i x) (sym h) lone
  takes_lone (suc steps) u w lone h = takes_lone steps h.0 w (steps_lone defers (LAST_SLOT + 1) size refl i u h.0 lone h.1) h.2

  module _ (request : Request) (So : World T → Type 0) (quiet : (v : World T) → So v → AllRest v) where
    -- its caller's row alone is under way
    pub lone_in : (row : Row) (w : World T) → Within defers size i request So row w → Lone defers (LAST_SLOT + 1) size i w
    lone_in row w h =
        takes_lone h.steps h.begun w
        (begins_lone defers (LAST_SLOT + 1) size refl i request h.before h.begun (rested_by defers size h.before h.came (quiet h.before h.so)) h.begins) h.takes

    -- it takes one more step
    abbrev pub more_in : (row row2 : Row) (w w2 : World T) → Within defers size i request So row w → Steps' defers i (w.row i) w w2 → w2.row i ≡ row2 → Within defers size i request So row2 w2
    more_in row row2 w w2 h st is = record {
      before = h.before;
      so = h.so;
      came = h.came;
      begun = h.begun;
      begins = h.begins;
      steps = suc h.steps;
      takes = steps_more defers i h.steps h.begun w w2 h.takes st;
      row_is = is;
    }

    -- or its last one
    pub ends_in : (row : Row) (w w2 : World T) → (h : Within defers size i request So row w) → Steps' defers i (w.row i) w w2 → w2.row i ≡ Rests → Calls defers size i request h.before w2
    ends_in row w w2 h st is =
        (h.begun, suc h.steps, quiet h.before h.so i, h.begins, steps_end defers i (suc h.steps) h.begun w2 (steps_more defers i h.steps h.begun w w2 h.takes st) is)

  -- where all others rest, a row waits for nobody
  module _ (w : World T) (came : Came defers size w) (lone : Lone defers (LAST_SLOT + 1) size i w) where
    none_waits : (row : Row) → w.row i ≡ row → (g : Grant) → Waits defers row g w.memory → ⊥
    none_waits row is g waits =
        let k = row_waits defers w lone.good (held_by defers size w came) i g row is waits in
        let j = k.2.0 in
        let rests = ap (has_batch k.0) (lone.others j k.2.2) in
        let has = k.2.1 in
        cc (rests, has)

    pub settle_waits_not : (c d : Settle) (m : Mem T) → w.row i ≡ Settles c → Steps Took value_at w.memory (settle_plan defers c) m (d, settled.Waits) → ⊥
    settle_waits_not c d m is st =
        let k = steps_so w.memory (settle_plan defers c) m (d, settled.Waits) (row_may defers (LAST_SLOT + 1) size refl w lone.good i (Settles c) is) st in
        none_waits (Settles c) is k.0 (m, d, k.1)

    pub leave_waits_not : (c d : Leave) (m : Mem T) → w.row i ≡ Leaves c → Steps Took value_at w.memory (leave_plan defers c) m (d, settled.Waits) → ⊥
    leave_waits_not c d m is st =
        let k = steps_so w.memory (leave_plan defers c) m (d, settled.Waits) (row_may defers (LAST_SLOT + 1) size refl w lone.good i (Leaves c) is) st in
        none_waits (Leaves c) is k.0 (m, d, k.1)
