-- With no slot active, batches are flushed until none is open: each flush of a batch that isn't empty leaves less.
use Rattle.std.specs.Prelude.{Option, Some}
use Rattle.std.proofs.Common.{◌≡◌, ℕ, zero, suc, ◌+◌, ◌<◌, ◌≤◌, ◌^◌, Bool, true, false, cond, eqb, List, [], ◌∷◌, length, ◌⊎◌, inl, inr, refl, arith, ap, sym, subst, ◌∙◌}
use Rattle.std.proofs.lemmas.Bool.{cases_eq, cases_lt}
use Rattle.seize_words.specs.declared.at.At.TheVariants as name
use Rattle.seize_words.specs.OneMemory.Mem.{word_at}
use Rattle.seize.specs.declared.states.TheConstants.{BATCH, LAST_SLOT}
use Rattle.seize.specs.Settle.{flushing}
use Rattle.seize.specs.WaitingSets.{Sets, flushed}
use Rattle.seize.specs.World.{World, Use, Vacant, Outside, Settles, Flush, IsTaken, with_row, with_use, one_more}
use Rattle.seize_model.specs.Given.SeizeWaitingHeld.{Once}
use Rattle.seize_model.proofs.Given.SeizeWaitingFlushes.{much, flushed_falls, flushed_frame}
use Rattle.seize_model.proofs.Given.SeizeMovesSets.Counters.{once_shown}
use Rattle.seize_model.proofs.Given.SeizeMemoryWords.Chains.{last_of}
use Rattle.seize_model.proofs.Given.SeizeMemoryWords.Named.{word_found, link}
use Rattle.seize_model.proofs.Ends.Batches.Rows.{HeldByRows, none_held}
use Rattle.seize_model.proofs.Sets.Slots.Kept.{flush_outside, flush_vacant}
use Rattle.seize_model.proofs.Sets.Turns.All.{calls_come}
use Rattle.seize_model.proofs.Sets.Turns.Begins.{Shown, rest}
use Rattle.seize_acts.proofs.Acts.Reclaimed.Whole.{Calm, Reaches, reaches_on, call_there, calls_calm, flushes_reach}

-- a slot with an open batch that isn't empty, or none below k has one
find : (f : ℕ → List ℕ) (k : ℕ) → ((s : ℕ) × (s < k) × (0 < length (f s))) ⊎ ((s : ℕ) → s < k → f s ≡ [])
find f zero = inr (λ s l. absurd (omega (arith, l)))
find f (suc k) = by (f k) refl (find f k)
  where
    by : (l : List ℕ) → f k ≡ l → ((s : ℕ) × (s < k) × (0 < length (f s))) ⊎ ((s : ℕ) → s < k → f s ≡ [])
        → ((s : ℕ) × (s < suc k) × (0 < length (f s))) ⊎ ((s : ℕ) → s < suc k → f s ≡ [])
    by (b ∷ l) e found = let a = ap length e in inl (k, omega arith, omega (arith, a))
    by [] e (inl found) = let a = found.1 in inl (found.0, omega (arith, a), found.2)
    by [] e (inr none) = inr (λ s l. (elim (cases_eq s k) as (λ _. f s ≡ []) [
      | inl same ↦ ap f same ∙ e
      | inr ne ↦ none s (omega (arith, l, ne))
    ]))

lower : (a b k : ℕ) → a + k ≤ b → 0 < k → a < b
lower a b k le some = omega (arith, le, some)

none_lower : (a b : ℕ) → a < b → b ≤ 0 → ⊥
none_lower a b less le = omega (arith, less, le)

one_lower : (a b k : ℕ) → a < b → b ≤ suc k → a ≤ k
one_lower a b k less le = omega (arith, less, le)

module _ {T : Type 0} (defers : T → Option ℕ) (size i : ℕ) (v : World T) (sets : Sets) (shown : Shown defers (LAST_SLOT + 1) size v sets) where
  once_now : (s : ℕ) → s < LAST_SLOT + 1 → Once (sets.open_batch s) [] sets.further
  once_now s l =
      let n = LAST_SLOT + 1 in
      let g = shown.rested.good in
      subst (λ (p : List ℕ). Once (sets.open_batch s) p sets.further) (rest defers n size refl i v sets shown).pending
      (once_shown n i s g.state shown.order sets l g.inv shown.models)

  -- a flush of a batch that isn't empty leaves less in the sets
  pub flush_lower : sets.active ≡ [] → (s : ℕ) → s < LAST_SLOT + 1 → 0 < length (sets.open_batch s) → much (LAST_SLOT + 1) (flushed size s sets).sets < much (LAST_SLOT + 1) sets
  flush_lower quiet s l some = lower _ _ (length (sets.open_batch s)) (flushed_falls size s (LAST_SLOT + 1) sets l quiet (once_now s l)) some

module _ {T : Type 0} (defers : T → Option ℕ) (size i : ℕ) (word : size < 2 ^ 64) (slots : ℕ) (few : slots ≤ LAST_SLOT + 1) where
  -- No slot is active, and only the first ones have batches: how far it has come from w.
  pub record Flushing (w v : World T) (sets : Sets) : Type 0 where
    pub reaches : Reaches defers size i w v
    pub shown : Shown defers (LAST_SLOT + 1) size v sets
    pub held : HeldByRows v
    pub quiet : sets.active ≡ []
    pub idle : (t : ℕ) → t < slots → v.uses t ≡ Outside 0
    pub vacant : (t : ℕ) → slots ≤ t → v.uses t ≡ Vacant
    pub past : (t : ℕ) → slots ≤ t → sets.open_batch t ≡ []

  flush_one : (w v : World T) (sets : Sets) → Flushing w v sets → (s : ℕ) → s < slots → (u : World T) × Flushing w u (flushed size s sets).sets
  flush_one w v sets f s lt =
      let n = LAST_SLOT + 1 in
      let calm : Calm defers size v = record { rested = f.shown.rested; held = f.held } in
      let begun = with_use (with_row v i (Settles (flushing s size))) s (one_more (v.uses s)) in
      let call = call_there defers size i (Flush s) v begun calm (subst (λ (u : Use). IsTaken u) (sym (f.idle s lt)) tt, refl) in
      let u = call.0 in
      let came = calls_come defers n size refl word i (Flush s) v u sets f.shown call.1 in
      let after : Shown defers n size u (flushed size s sets).sets = came.shown in
      let frame = flushed_frame size s sets in (
        u,
        record {
          reaches = reaches_on defers size i w v u f.reaches (flushes_reach defers size i s v u calm call.1);
          shown = after;
          held = (calls_calm defers size i (Flush s) v u calm call.1).held;
          quiet = frame.active ∙ f.quiet;
          idle = λ t l. flush_outside defers i n size s t refl v u after.rested call.1 (f.idle t l);
          vacant = λ t l. flush_vacant defers i size s t v u call.1 (f.vacant t l);
          past = λ t l. frame.others t (λ e. absurd (omega (arith, e, l, lt))) ∙ f.past t l;
        },
      )

  -- until no batch is open
  pub record Emptied (w v : World T) : Type 0 where
    pub sets : Sets
    pub flushing_is : Flushing w v sets
    pub none : (s : ℕ) → sets.open_batch s ≡ []

  done : (w v : World T) (sets : Sets) → Flushing w v sets → ((s : ℕ) → s < slots → sets.open_batch s ≡ []) → Emptied w v
  done w v sets f none = record {
    sets = sets;
    flushing_is = f;
    none = λ s. (elim (cases_lt s slots) as (λ _. sets.open_batch s ≡ []) [
      | inl l ↦ none s l
      | inr l ↦ f.past s l
    ]);
  }

  falls : (w v : World T) (sets : Sets) → Flushing w v sets → (s : ℕ) → s < slots → 0 < length (sets.open_batch s)
      → much (LAST_SLOT + 1) (flushed size s sets).sets < much (LAST_SLOT + 1) sets
  falls w v sets f s l some = flush_lower defers size i v sets f.shown f.quiet s (omega (arith, l, few)) some

  pub all_flush : (fuel : ℕ) (w v : World T) (sets : Sets) → Flushing w v sets → much (LAST_SLOT + 1) sets ≤ fuel → (u : World T) × Emptied w u
  all_flush zero w v sets f le = elim (find sets.open_batch slots) as (λ _. (u : World T) × Emptied w u) [
    | inr none ↦ (v, done w v sets f none)
    | inl found ↦ absurd (none_lower _ _ (falls w v sets f found.0 found.1 found.2) le)
  ]
  all_flush (suc fuel) w v sets f le = elim (find sets.open_batch slots) as (λ _. (u : World T) × Emptied w u) [
    | inr none ↦ (v, done w v sets f none)
    | inl found ↦
        let k = flush_one w v sets f found.0 found.1 in
        all_flush fuel w k.0 (flushed size found.0 sets).sets k.1 (one_lower _ _ fuel (falls w v sets f found.0 found.1 found.2) le)
  ]

-- a slot with no open batch has the word 0, where no row is under way
pub batch_zero : {T : Type 0} (defers : T → Option ℕ) (size : ℕ) (v : World T) (sets : Sets) (shown : Shown defers (LAST_SLOT + 1) size v sets) → HeldByRows v
    → (s : ℕ) → s < LAST_SLOT + 1 → sets.open_batch s ≡ [] → (word : ℕ) → word_at v.memory (name.Slot s BATCH) ≡ Some word → word ≡ 0
batch_zero defers size v sets shown held s lt none word is =
    let rested = shown.rested in
    let g = rested.good in
    let not_held = none_held v 0 (λ j ne. rested.rests j) held (rested.rests 0) in
    let empty : last_of (g.state.blocks (g.state.open_batch s)) ≡ 0 = ap last_of (shown.models.opened s lt ∙ none) in
    let found = word_found v.memory (name.Slot s BATCH) word is in
    by (eqb (g.state.holder s) 0)
    (sym found ∙ g.shows.linkage.batched s lt ∙ ap (λ (k : ℕ). cond (eqb (g.state.holder s) 0) (link k) 1) empty) (λ e. not_held s (found ∙ e))
  where
    by : (b : Bool) → word ≡ cond b (link 0) 1 → (word ≡ 1 → ⊥) → word ≡ 0
    by true e ne = e
    by false e ne = absurd (ne e)
