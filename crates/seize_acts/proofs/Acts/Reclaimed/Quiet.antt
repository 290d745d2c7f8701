-- Where all rows rest and no slot is active, the waiting sets can be read off the world: no batch is closed, so none is before another one.
use Rattle.std.specs.Prelude.{Option, Some, None, IsSome, map, filter, ◌==◌, slice_index_or}
use Rattle.std.proofs.Common.{◌≡◌, ℕ, zero, suc, ◌+◌, ◌-◌, ◌<◌, ◌≤◌, Bool, true, false, cond, ltb, List, [], ◌∷◌, ◌++◌, length, inl, inr, refl, arith, ap, sym, ◌∙◌}
use Rattle.std.proofs.lemmas.Bool.{cases_lt, cases_eq, eq-eqb}
use Rattle.std.proofs.Math.ListN.{get_or-eq_default}
use Rattle.seize_words.specs.declared.block.Block.{Block}
use Rattle.seize_words.specs.OneMemory.Mem.{value_at, value_in}
use Rattle.seize.specs.declared.states.TheConstants.{LAST_SLOT}
use Rattle.seize.specs.WaitingSets.{Further, Sets, further_of}
use Rattle.seize.specs.World.{World, Rests, IsOutside}
use Rattle.seize_model.specs.Given.SeizeWaitingHeld.{count}
use Rattle.seize_model.proofs.Given.SeizeWaitingCounts.{none_counted}
use Rattle.seize_model.proofs.Given.SeizeMovesState.Ghost.{State, Head, Never, Free, Idle, Active, list_of, is_active}
use Rattle.seize_model.proofs.Given.SeizeMovesState.Rule.{Inv, Pending}
use Rattle.seize_model.proofs.Given.SeizeMovesSets.Quiescent.{IsQuiescent, none_shut}
use Rattle.seize_model.proofs.Given.SeizeMovesSets.Shown.{Models, batches_in, ascending_same, ascending_none}
use Rattle.seize_model.proofs.Given.SeizeMemoryWords.Lists.{deferred_of}
use Rattle.seize_model.proofs.Given.SeizeMemoryWords.There.{value_there}
use Rattle.seize_model.proofs.Given.SeizeRuleWorld.Bounded.{quiescent}
use Rattle.seize_model.proofs.Given.SeizeRuleWorld.Good.{Good}
use Rattle.seize_model.proofs.Given.SeizeRuleWorld.Rested.{Rested}
use Rattle.seize_model.proofs.Sets.Turns.Begins.{Shown}
use Rattle.seize_acts.proofs.Acts.Lost.{carries, living}

-- further values, of one block and of all blocks below a number

abbrev put_behind : ℕ → List ℕ → List Further
put_behind t [] = []
put_behind t (c ∷ blocks) = record { number = c; behind = t } ∷ put_behind t blocks

abbrev all_put : (ℕ → List ℕ) → ℕ → List Further
all_put deferred zero = []
all_put deferred (suc k) = put_behind k (deferred k) ++ all_put deferred k

-- what is behind one of them, by the test of the first
abbrev tested : Bool → Further → ℕ → List Further → List ℕ
tested b f t further =
    map (λ (g : Further). g.number) (cond b (f ∷ filter (λ (g : Further). g.behind == t) further) (filter (λ (g : Further). g.behind == t) further))

put_here : (t : ℕ) (blocks : List ℕ) (more : List Further) → further_of t (put_behind t blocks ++ more) ≡ blocks ++ further_of t more
put_here t [] more = refl
put_here t (c ∷ blocks) more = by (t == t) (eq-eqb t t refl) (put_here t blocks more)
  where
    by : (b : Bool) → b ≡ true → further_of t (put_behind t blocks ++ more) ≡ blocks ++ further_of t more
        → tested b (record { number = c; behind = t }) t (put_behind t blocks ++ more) ≡ c ∷ (blocks ++ further_of t more)
    by true e ih = ap (λ (l : List ℕ). c ∷ l) ih
    by false e ih = absurd (cc e)

put_other : (t u : ℕ) (blocks : List ℕ) (more : List Further) → (u ≡ t → ⊥) → further_of t (put_behind u blocks ++ more) ≡ further_of t more
put_other t u [] more ne = refl
put_other t u (c ∷ blocks) more ne = by (u == t) (λ e. ne (grind (arith, e))) (put_other t u blocks more ne)
  where
    by : (b : Bool) → (b ≡ true → ⊥) → further_of t (put_behind u blocks ++ more) ≡ further_of t more
        → tested b (record { number = c; behind = u }) t (put_behind u blocks ++ more) ≡ further_of t more
    by true e ih = absurd (e refl)
    by false e ih = ih

put_past : (deferred : ℕ → List ℕ) (k t : ℕ) → k ≤ t → further_of t (all_put deferred k) ≡ []
put_past deferred zero t le = refl
put_past deferred (suc k) t le =
    put_other t k (deferred k) (all_put deferred k) (λ e. absurd (omega (arith, e, le))) ∙ put_past deferred k t (omega (arith, le))

nil_behind : (l m : List ℕ) → m ≡ [] → l ++ m ≡ l
nil_behind [] m e = e
nil_behind (c ∷ l) m e = ap (λ (x : List ℕ). c ∷ x) (nil_behind l m e)

put_below : (deferred : ℕ → List ℕ) (k t : ℕ) → t < k → further_of t (all_put deferred k) ≡ deferred t
put_below deferred zero t l = absurd (omega (arith, l))
put_below deferred (suc k) t l = elim (cases_eq k t) as (λ _. further_of t (all_put deferred (suc k)) ≡ deferred t) [
  | inl same ↦
      ap (λ (x : ℕ). further_of t (put_behind x (deferred x) ++ all_put deferred k)) same
      ∙ put_here t (deferred t) (all_put deferred k) ∙ nil_behind (deferred t) _ (put_past deferred k t (omega (arith, same)))
  | inr ne ↦ put_other t k (deferred k) (all_put deferred k) ne ∙ put_below deferred k t (omega (arith, l, ne))
]

-- the sets of a state with no batch closed
abbrev pub quiet_sets : ℕ → ℕ → State → Sets
quiet_sets n k m =
    record { open_batch = λ s. cond (ltb s n) (m.blocks (m.open_batch s)) []; closed = []; active = []; slots = n; further = all_put m.deferred k }

pub opened_below : (s n : ℕ) (l : List ℕ) → s < n → cond (ltb s n) l [] ≡ l
opened_below s n l h = grind (arith, h)

pub opened_past : (s n : ℕ) (l : List ℕ) → n ≤ s → cond (ltb s n) l [] ≡ []
opened_past s n l h = grind (arith, h)

unlisted : (h : Head) → is_active h ≡ false → batches_in (list_of h) ≡ []
unlisted Never e = refl
unlisted Free e = refl
unlisted Idle e = refl
unlisted (Active es) e = absurd (cc e)

models_quiet : (n k : ℕ) (m : State) → Inv n m → Pending m.stage m.counter → IsQuiescent m → ((t : ℕ) → k ≤ t → m.deferred t ≡ [])
    → Models n m [] (quiet_sets n k m)
models_quiet n k m inv pending quiet none = record {
  opened = λ s l. sym (opened_below s n (m.blocks (m.open_batch s)) l);
  closed = refl;
  ordered = λ x. sym (none_shut n x m inv pending quiet);
  lists = λ t. unlisted (m.head t) (quiet.slots t);
  active = ascending_same (λ t. is_active (m.head t)) (λ t. false) n (λ t l. quiet.slots t) ∙ ascending_none n;
  put = λ t. (elim (cases_lt t k) as (λ _. further_of t (all_put m.deferred k) ≡ m.deferred t) [
    | inl l ↦ put_below m.deferred k t l
    | inr l ↦ put_past m.deferred k t l ∙ sym (none t l)
  ]);
  unused = λ s l. opened_past s n (m.blocks (m.open_batch s)) l;
}

module _ {T : Type 0} {size : ℕ} (defers : T → Option ℕ) (w : World T) (good : Good defers (LAST_SLOT + 1) size w) (rests : (j : ℕ) → w.row j ≡ Rests) where
  -- a number past the table of blocks is no block's
  past_none : (t : ℕ) → length w.memory.blocks + 1 ≤ t → value_at w.memory t ≡ None
  past_none t le = ap value_in (by (t == 0))
    where
      by : (b : Bool) → cond b None (slice_index_or w.memory.blocks (t - 1) None) ≡ None
      by true = refl
      by false = get_or-eq_default {A = Option (Block T)} w.memory.blocks None (let l : length w.memory.blocks ≤ t - 1 = omega (arith, le) in l)

  none_deferred : (t : ℕ) → length w.memory.blocks + 1 ≤ t → good.state.deferred t ≡ []
  none_deferred t le = none_counted (good.state.deferred t) (λ c. by c (count c (good.state.deferred t)) refl)
    where
      away : (o : Option T) → o ≡ None → IsSome o → ⊥
      away None e some = cc some
      away (Some x) e some = cc e

      by : (c k : ℕ) → count c (good.state.deferred t) ≡ k → count c (good.state.deferred t) ≡ 0
      by c zero e = e
      by c (suc k) e =
          let is = deferred_of t (good.state.life c) (λ z. absurd (let a = good.inv.places.all_deferred t c in omega (arith, a, z, e))) in
          let live = living defers w good rests c t is (good.state.life t) (carries defers w good rests c t is).1 in
          absurd (away (value_at w.memory t) (past_none t le) (value_there defers (LAST_SLOT + 1) w.memory good.state good.extra t good.shows live))

-- what such a world shows
pub quiet_shown : {T : Type 0} (defers : T → Option ℕ) (size : ℕ) (w : World T) (rested : Rested defers (LAST_SLOT + 1) size w)
    → ((s : ℕ) → IsOutside (w.uses s))
    → Shown defers (LAST_SLOT + 1) size w (quiet_sets (LAST_SLOT + 1) (length w.memory.blocks + 1) rested.good.state)
quiet_shown defers size w rested outside = record {
  rested = rested;
  order = [];
  models =
      let g = rested.good in
      models_quiet (LAST_SLOT + 1) (length w.memory.blocks + 1) g.state g.inv g.pending (quiescent defers (LAST_SLOT + 1) w g rested.rests outside)
      (λ t le. none_deferred defers w g rested.rests t le);
}
