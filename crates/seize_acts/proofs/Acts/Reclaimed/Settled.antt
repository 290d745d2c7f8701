-- Slots settle, ascending: one that was given up is taken again, and one that is active leaves.
use Rattle.std.specs.Prelude.{Option, Some, None, IsSome, if◌then◌else◌}
use Rattle.std.proofs.Common.{◌≡◌, ℕ, zero, suc, ◌+◌, ◌<◌, ◌≤◌, Bool, true, false, inl, inr, refl, arith, ap, sym, subst, ◌∙◌}
use Rattle.std.proofs.lemmas.Bool.{cases_eq}
use Rattle.seize_words.specs.declared.at.At.TheVariants as name
use Rattle.seize_words.specs.OneMemory.Mem.{Mem, word_at}
use Rattle.seize_words.proofs.OneMemory.OneOwner.AfterWrites.{word_at-with_word}
use Rattle.seize.specs.declared.states.TheConstants.{HEAD, FREE, IDLE, LAST_SLOT}
use Rattle.seize.specs.Leave.{leaving as leaving_slot}
use Rattle.seize.specs.World.{World, Use, Vacant, Outside, Inside, Changing, Leaves, Register', Leave', with_row, with_use}
use Rattle.seize_model.proofs.Given.SeizeMovesState.Ghost.{is_never}
use Rattle.seize_model.proofs.Given.SeizeMemoryWords.Named.{same_at-refl, words_of, word_found}
use Rattle.seize_model.proofs.Given.SeizeMemoryWords.View.{view}
use Rattle.seize_model.proofs.Sets.Slots.Kept.{leave_idles}
use Rattle.seize_model.proofs.Sets.Slots.Retaken.{retaken, retaken_idle}
use Rattle.seize_model.proofs.Sets.Turns.Heads.{WordOf, head_word, word_says, vacant_by, outside_by, never_zero as head_none}
use Rattle.seize_acts.proofs.Acts.Reclaimed.Whole.{Calm, Reaches, stays, reaches_on, call_there, calls_calm, registers_reach, leaves_reach}
use Rattle.seize_model.proofs.Given.SeizeRulePoints.Try.{never_word as zero_never}

outside_zero : (u : Use) (v : ℕ) → WordOf u v → (j : ℕ) → u ≡ Outside j → u ≡ Outside 0
outside_zero Vacant v w j e = absurd (cc e)
outside_zero (Outside k) v w j e = ap Outside w.1
outside_zero (Inside k) v w j e = absurd (cc e)
outside_zero Changing v w j e = absurd w

inside_zero : (u : Use) (v : ℕ) → WordOf u v → (j : ℕ) → u ≡ Inside j → u ≡ Inside 0
inside_zero Vacant v w j e = absurd (cc e)
inside_zero (Outside k) v w j e = absurd (cc e)
inside_zero (Inside k) v w j e = ap Inside w.1
inside_zero Changing v w j e = absurd w

-- a word that isn't 0 is there
word_there : (o : Option ℕ) (a : ℕ) → (o ≡ None → a ≡ 0) → ((v : ℕ) → o ≡ Some v → a ≡ v) → (a ≡ 0 → ⊥) → o ≡ Some a
word_there None a none found ne = absurd (ne (none refl))
word_there (Some v) a none found ne = ap Some (sym (found v refl))

module _ {T : Type 0} (defers : T → Option ℕ) (size i : ℕ) (w : World T) where
  abbrev pub Idle : ℕ → World T → Type 0
  Idle k v = (t : ℕ) → t < k → v.uses t ≡ Outside 0

  -- the slots below this number are idle
  pub record Settling (s : ℕ) (v : World T) : Type 0 where
    pub reaches : Reaches defers size i w v
    pub calm : Calm defers size v
    pub idle : Idle s v

  -- all slots ever taken are
  pub record Settled (v : World T) : Type 0 where
    pub slots : ℕ
    pub few : slots ≤ LAST_SLOT + 1
    pub settling : Settling slots v
    pub never : (t : ℕ) → slots ≤ t → is_never (settling.calm.rested.good.state.head t) ≡ true

  idle_more : (s : ℕ) (u : World T) → Idle s u → u.uses s ≡ Outside 0 → Idle (suc s) u
  idle_more s u idle here t l = elim (cases_eq t s) as (λ _. u.uses t ≡ Outside 0) [
    | inl is ↦ ap u.uses is ∙ here
    | inr ne ↦ idle t (omega (arith, l, ne))
  ]

  module _ (s : ℕ) (v : World T) (st : Settling s v) (lt : s < LAST_SLOT + 1) where
    abbrev head : ℕ
    head = words_of v.memory (name.Slot s HEAD)

    says : WordOf (v.uses s) head
    says = head_word defers (LAST_SLOT + 1) size refl v st.calm.rested s

    abbrev Next : Type 0
    Next = (u : World T) × Settling (suc s) u

    retakes : (head ≡ 0 → ⊥) → v.uses s ≡ Vacant → Next
    retakes ne vacant =
        let n = LAST_SLOT + 1 in
        let one : head ≡ FREE = (let k : WordOf Vacant head = subst (λ (u : Use). WordOf u head) vacant says in omega (arith, k, ne)) in
        let free : word_at v.memory (name.Slot s HEAD) ≡ Some FREE =
        word_there (word_at v.memory (name.Slot s HEAD)) head (λ e. grind (arith, e)) (λ x e. word_found v.memory (name.Slot s HEAD) x e) ne ∙ ap Some one in
        let call = retaken defers n size refl i v st.calm.rested s lt free st.idle in
        let u = call.0 in
        let calm = calls_calm defers size i (Register' false) v u st.calm call.1 in
        let word : word_at u.memory (name.Slot s HEAD) ≡ Some 2 =
        ap (λ (m : Mem T). word_at m (name.Slot s HEAD)) call.2
        ∙ word_at-with_word v.memory (name.Slot s HEAD) IDLE (name.Slot s HEAD) (subst (λ (o : Option ℕ). IsSome o) (sym free) refl)
        ∙ ap (λ (b : Bool). if b then Some IDLE else word_at v.memory (name.Slot s HEAD)) (same_at-refl (name.Slot s HEAD)) in (
          u,
          record {
            reaches = reaches_on defers size i w v u st.reaches (registers_reach defers size i v u st.calm call.1);
            calm = calm;
            idle = idle_more s u (retaken_idle defers n size refl i v st.calm.rested s lt free st.idle u call.1)
                (outside_by (u.uses s) 2 (word_says defers n size refl u calm.rested s 2 word) refl);
          },
        )

    leaves : v.uses s ≡ Inside 0 → Next
    leaves e =
        let begun = with_use (with_row v i (Leaves (leaving_slot s size IDLE false))) s Changing in
        let call = call_there defers size i (Leave' s) v begun st.calm (e, refl) in
        let u = call.0 in
        let k = leave_idles defers i size s v u call.1 in (
          u,
          record {
            reaches = reaches_on defers size i w v u st.reaches (leaves_reach defers size i s v u st.calm call.1);
            calm = calls_calm defers size i (Leave' s) v u st.calm call.1;
            idle = idle_more s u (λ t l. k.1 t (λ q. absurd (omega (arith, l, q))) ∙ st.idle t l) k.0;
          },
        )

    passes : v.uses s ≡ Outside 0 → Next
    passes e = (v, record { reaches = st.reaches; calm = st.calm; idle = idle_more s v st.idle e })

    next : (head ≡ 0 → ⊥) → (u : Use) → v.uses s ≡ u → Next
    next ne Vacant e = retakes ne e
    next ne (Outside j) e = passes (outside_zero (v.uses s) head says j e)
    next ne (Inside j) e = leaves (inside_zero (v.uses s) head says j e)
    next ne Changing e = absurd (subst (λ (u : Use). WordOf u head) e says)

    -- it was never taken, and so none from there on was
    stops : head ≡ 0 → Settled v
    stops zero_head =
        let g = st.calm.rested.good in
        record {
          slots = s;
          few = omega (arith, lt);
          settling = st;
          never = λ t le. g.inv.slots.prefix s t le (zero_never (view defers v.memory).links head (g.state.head s) (g.shows.entries.headed s) zero_head);
        }

  go : (left s : ℕ) (v : World T) → s + left ≡ LAST_SLOT + 1 → Settling s v → (u : World T) × Settled u
  go zero s v e st = (
    v,
    record {
      slots = s;
      few = omega (arith, e);
      settling = st;
      never = λ t le. ap is_never (st.calm.rested.good.inv.slots.outside t (omega (arith, e, le)));
    },
  )
  go (suc left) s v e st = by (words_of v.memory (name.Slot s HEAD)) refl (λ u st2. go left (suc s) u (omega (arith, e)) st2)
    where
      lt : s < LAST_SLOT + 1
      lt = omega (arith, e)

      by : (a : ℕ) → words_of v.memory (name.Slot s HEAD) ≡ a → ((u : World T) → Settling (suc s) u → (x : World T) × Settled x) → (u : World T) × Settled u
      by zero q later = (v, stops s v st lt q)
      by (suc a) q later = let k = next s v st lt (λ z. absurd (cc (z, q))) (v.uses s) refl in later k.0 k.1

  pub all_settle : Calm defers size w → (u : World T) × Settled u
  all_settle calm = go (LAST_SLOT + 1) 0 w refl (record { reaches = stays defers size i w w refl; calm = calm; idle = λ t l. absurd (omega (arith, l)) })

  -- the others are vacant
  pub settled_vacant : (u : World T) (k : Settled u) (t : ℕ) → k.slots ≤ t → u.uses t ≡ Vacant
  settled_vacant u k t le =
      let g = k.settling.calm.rested.good in
      let z = head_none (view defers u.memory).links (words_of u.memory (name.Slot t HEAD)) (g.state.head t) (g.shows.entries.headed t) (k.never t le) in
      vacant_by (u.uses t) (words_of u.memory (name.Slot t HEAD)) (head_word defers (LAST_SLOT + 1) size refl u k.settling.calm.rested t) (omega (arith, z))
