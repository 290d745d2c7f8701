-- The words may be shared, and a seat may go to another thread: nothing of them is tied to one. Assumes nothing.
use Rattle.std.proofs.Common.{ℕ, Bool, true, false, zero, suc, ◌+◌, ◌*◌, List, [], ◌∷◌, length, take, drop, None, Some}
use mir.Syntax.{w64, ty_int, ty_array}
use base.Fraction.{full_share}
use base.Stored.{Gv}
use base.Fml.{Lft, Share, Fml}
use base.Shift.{Keyless}
use denote.RawPtr.{Ptr, block_of, count_of}
use denote.RattleType.{RattleType}
use denote.Param.Send.{IsSend, IsSync, part_keyless}
use types.Keyed.{token, entry_keyless, entries_keyless}
use Rattle.core.specs.contracts.option.Option.{the_row as OptionOf}
use Rattle.std.proofs.Crossing.{frees as freed}
use Rattle.seize_seats.specs.Seats.State.{State}
use Rattle.seize_seats.specs.Seats.Cells.{Body, Cell, Free, Claimed, Out, Has, Held}
use Rattle.seize_seats.specs.Seats.Strips.{Strip, strip_coded, no_strip, further}
use Rattle.seize_seats.specs.Seats.Doors.{block_type, IsFurther, heap, right_to, doors}
use Rattle.seize_seats.specs.Seats.Lines.{long}
use Rattle.seize_seats.specs.Seats.Buckets.{IsBucket}
use Rattle.seize_seats.specs.Seats.Errands.{Away, Aide, Aided, These, Anyone, ViewCode, aide_shares, aide_stake, stake, stakes}
use Rattle.seize_seats.specs.Seats.Owned.{words_right, lines, bucket_right, bucket_known, ground, Pieces, shared_view, row, piece, lent_in, had_in, quarters, ledger, zeros, stride, kept, numbers, strips, Core, BaseId, core_of, everything, common, words_own, words_share}
use Rattle.seize_seats.specs.Seats.Lendings.{Phase, Begins, Lasts, Over, in_phase, Holder, Lending, Witness, witnessed, span, told, lendings, lendable, in_hand}
use Rattle.seize_seats.specs.Seats.Stretches.{lasting, seat_owns, seat_shares}

row_keyless : (b o : ℕ) (ns : List ℕ) → Keyless (row b o ns)
row_keyless b o [] = tt
row_keyless b o (n ∷ ns) = (tt, row_keyless b (o + 8) ns)

lines_keyless : (ss : List Strip) (ws : List ℕ) → Keyless (lines ss ws)
lines_keyless [] ws = tt
lines_keyless (s ∷ ss) ws = (row_keyless (block_of s.words) (count_of s.words) (take (s.size * 16) ws), lines_keyless ss (drop (s.size * 16) ws))

bucket_keyless : (σ k : ℕ) (s : Strip) → Keyless (bucket_known σ k s)
bucket_keyless σ zero s = tt
bucket_keyless σ (suc k) s = ((λ _. tt), λ q. entry_keyless shared_view σ (suc k) _)

module _ {V : Type 0} (c : V → Gv) (γ : ℕ) where
  quarters_keyless : (k : ℕ) (vs : List V) → Keyless (quarters c γ k vs)
  quarters_keyless k [] = tt
  quarters_keyless k (v ∷ vs) = (entry_keyless shared_view γ k _, quarters_keyless (suc k) vs)

  stretch_keyless : (id : ℕ) (v : V) (σ θ : ℕ) (y : Bool) → Keyless (lasting c γ id v σ θ y)
  stretch_keyless id v σ θ true = entry_keyless shared_view γ id _
  stretch_keyless id v σ θ false = (tt, entry_keyless token θ 0 _)

  pub seat_keyless : (id : ℕ) (v : V) (σ θ : ℕ) → Keyless (seat_owns c γ id v σ θ)
  seat_keyless id v σ θ = (tt, (entry_keyless shared_view γ id _, ((λ n. ((λ _. tt), λ y. stretch_keyless id v σ θ y)), entry_keyless token θ 0 _)))

  pub seat_shares_keyless : (id : ℕ) (v : V) (σ θ : ℕ) (κ : Lft) → Keyless (seat_shares c γ id v σ θ κ)
  seat_shares_keyless id v σ θ κ = ((λ _. tt), ((λ q. entry_keyless shared_view γ id _), λ n. ((λ _. tt), λ y. stretch_keyless id v σ θ y)))

-- a value that can be lent
module _ (R : RattleType) (sent : IsSend (OptionOf R)) (synced : IsSync (OptionOf R)) (α : Lft) {V W : Type 0} (c : V → Gv) (γ : ℕ) (holds : State R.Denot V W
    → Type 0) where
  phase_keyless : (μ : Lft) (ν : ℕ) (s : Share) (ph : Phase) → Keyless (in_phase μ ν s ph)
  phase_keyless μ ν s Begins = tt
  phase_keyless μ ν s Lasts = λ u. (entry_keyless shared_view ν 0 _, tt)
  phase_keyless μ ν s Over = λ u. entry_keyless shared_view ν 0 _

  told_keyless : (h : Holder V) → Keyless (told R α c γ holds h)
  told_keyless h = λ n. ((λ _. tt), stretch_keyless c γ h.seat h.view h.stretch h.mark)

  witnessed_keyless : (x : Witness V) → Keyless (witnessed R α c γ holds x)
  witnessed_keyless None = tt
  witnessed_keyless (Some w) = entry_keyless shared_view γ w.0 _

  lendings_keyless : (i a : ℕ) (ls : List (Lending V)) → Keyless (lendings R α c γ holds i a ls)
  lendings_keyless i a [] = tt
  lendings_keyless i a (l ∷ ls) = (
    (
      entry_keyless shared_view l.name 0 _,
      (phase_keyless (span α l.guard l.owner) l.name l.stake, (((told_keyless l.guard, told_keyless l.owner), witnessed_keyless l.witness), λ _. tt)),
    ),
    lendings_keyless i a ls,
  )

  lendable_keyless : (i : ℕ) (x : R.Denot) (b o : ℕ) → Keyless (lendable R α c γ holds i x b o)
  lendable_keyless i x b o = λ n.
      (synced.shared (Some x) b o (n.atom ∷ []), (part_keyless (OptionOf R) sent full_share (Some x) b o, (tt, ((λ _. tt), lendings_keyless i n.atom n.lendings))))

  in_hand_keyless : (ρ i : ℕ) (x : R.Denot) → Keyless (in_hand R α c γ holds ρ i x)
  in_hand_keyless ρ i x = λ u. (entry_keyless shared_view ρ 0 _, (entry_keyless shared_view γ u.0 _, λ _. tt))

module _ (R : RattleType) (sent : IsSend (OptionOf R)) (α : Lft) (δ : ℕ) (lent : ℕ → Body R.Denot → ℕ → ℕ → Fml) (lent_keyless : (i : ℕ) (x : Body R.Denot) (b o : ℕ)
    → Keyless (lent i x b o)) (had : ℕ → ℕ → Body R.Denot → Fml) (had_keyless : (ρ i : ℕ) (x : Body R.Denot) → Keyless (had ρ i x)) where
  kept_keyless : (b b' o o' i : ℕ) (c : Cell R.Denot) → Keyless (kept R α δ lent had b o b' o' i c)
  kept_keyless b b' o o' i Free = (entry_keyless shared_view δ i _, (row_keyless b o zeros, part_keyless (OptionOf R) sent full_share None b' o'))
  kept_keyless b b' o o' i Claimed = (entry_keyless shared_view δ i _, (row_keyless b o zeros, part_keyless (OptionOf R) sent full_share None b' o'))
  kept_keyless b b' o o' i (Out e) = (entry_keyless shared_view δ i _, tt)
  kept_keyless b b' o o' i (Has x ws) = (entry_keyless shared_view δ i _, (row_keyless b o ws, lent_keyless i x b' o'))
  kept_keyless b b' o o' i (Held ρ e x ws) = (entry_keyless shared_view δ i _, (row_keyless b o ws, (tt, had_keyless ρ i x)))

  numbers_keyless : (b b' : ℕ) (cs : List (Cell R.Denot)) (o o' i : ℕ) → Keyless (numbers R α δ lent had b o b' o' i cs)
  numbers_keyless b b' [] o o' i = tt
  numbers_keyless b b' (c ∷ cs) o o' i = ((tt, kept_keyless b b' o o' i c), numbers_keyless b b' cs (o + 40) (o' + stride R) (suc i))

  strips_keyless : (ss : List Strip) (cs : List (Cell R.Denot)) → Keyless (strips R α δ lent had ss cs)
  strips_keyless [] cs = tt
  strips_keyless (s ∷ ss) cs = (
    numbers_keyless (block_of s.words) (block_of s.values) (take s.size cs) (s.skip * 8 + count_of s.words) (count_of s.values) s.first,
    strips_keyless ss (drop s.size cs),
  )

module _ (σ : ℕ) (Is : ℕ → Strip → Type 0) (right : Strip → Fml) (right_keyless : (s : Strip) → Keyless (right s)) where
  doors_keyless : (b o n k : ℕ) (ss : List Strip) → Keyless (doors σ Is right b o n k ss)
  doors_keyless b o zero k ss = tt
  doors_keyless b o (suc n) k [] = (tt, doors_keyless b (o + 8) n (suc k) [])
  doors_keyless b o (suc n) k (s ∷ ss) = (
    (tt, ((λ _. tt), ((λ q. entry_keyless shared_view σ (suc k) _), right_keyless s))),
    doors_keyless b (o + 8) n (suc k) ss,
  )

ledger_keyless : {V : Type 0} (c : V → Gv) (γ : ℕ) (d : V) (vs : List V) → Keyless (ledger c γ d vs)
ledger_keyless c γ d vs = (quarters_keyless c γ 0 vs, entries_keyless shared_view γ (length vs) _)

aides_keyless : (γ : ℕ) (xs : List Aide) → Keyless (aide_shares γ xs)
aides_keyless γ [] = tt
aides_keyless γ (a ∷ xs) = (entry_keyless shared_view γ a.seat _, aides_keyless γ xs)

aide_keyless : (γ : ℕ) (a : Aided) → Keyless (aide_stake γ a)
aide_keyless γ (These xs) = aides_keyless γ xs
aide_keyless γ Anyone = λ _. tt

stake_keyless : (α : Lft) (γ : ℕ) (e : Away) → Keyless (stake α γ e)
stake_keyless α γ None = tt
stake_keyless α γ (Some o) = (tt, aide_keyless γ o.aided)

stakes_keyless : {V : Type 0} (α : Lft) (γ : ℕ) (away : V → Away) (vs : List V) → Keyless (stakes α γ away vs)
stakes_keyless α γ away [] = tt
stakes_keyless α γ away (v ∷ vs) = (stake_keyless α γ (away v), stakes_keyless α γ away vs)

module _ (R : RattleType) (own : Pieces R.Denot) (sent : IsSend (OptionOf R)) (synced : IsSync (OptionOf R)) {V W : Type 0} (c : ViewCode V)
    (holds : State R.Denot V W → Type 0) where
  right_keyless : (n : ℕ) (p : Ptr) → Keyless (words_right n p)
  right_keyless zero p = tt
  right_keyless (suc n) p = freed.frees heap (ty_array (ty_int w64) (suc n)) p

  piece_keyless : (x : Body R.Denot) → Keyless (piece own x)
  piece_keyless x = ((λ _. tt), (row_keyless (block_of (own.at x.0)) (count_of (own.at x.0)) x.1, right_keyless (own.count x.0) (own.at x.0)))

  ground_keyless : (k : Core) (ws : List ℕ) → Keyless (ground k ws)
  ground_keyless k ws = λ ss. (
    (row_keyless (block_of k.fixed) (count_of k.fixed) (take (long k.roots) ws), lines_keyless ss (drop (long k.roots) ws)),
    (
      (
        ledger_keyless strip_coded.code k.slots_name no_strip (no_strip ∷ ss),
        doors_keyless k.slots_name IsBucket bucket_right (λ s. right_keyless (s.size * 16) s.words) (block_of k.doors) (256 + count_of k.doors) 32 0 ss,
      ),
      λ _. tt,
    ),
  )

  everything_keyless : (k : Core) → Keyless (everything R own c holds k)
  everything_keyless k = λ t. (
    (
      ground_keyless k t.parts.words,
      λ ss. (
        (
          (ledger_keyless strip_coded.code k.strips_name no_strip ss, entries_keyless shared_view k.hands_name (length t.parts.cells) _),
          doors_keyless k.strips_name (IsFurther R k.least) (right_to R) (λ s. (freed.frees heap (block_type R s.size) s.words, ((tt, tt), tt))) (block_of k.doors) (count_of k.doors) 32 0 (further ss),
        ),
        (
          (λ _. tt),
          strips_keyless R sent (k.atom ∷ []) k.hands_name (lent_in R own c holds k (λ _. Unit {0}))
              (λ i x b o. (piece_keyless x, lendable_keyless R sent synced (k.atom ∷ []) c.code k.views_name holds i x.0 b o))
              (had_in R own c holds k (λ _. Unit {0})) (λ ρ i x. (piece_keyless x, in_hand_keyless R sent synced (k.atom ∷ []) c.code k.views_name holds ρ i x.0)) ss t.parts.cells,
        ),
      ),
    ),
    ((ledger_keyless c.code k.views_name t.blank t.views, stakes_keyless (k.atom ∷ []) k.views_name c.away t.views), λ _. tt),
  )

  module _ (p : Ptr) (z : BaseId) where
    told_in_keyless : Keyless (common R own c holds p z)
    told_in_keyless = ((λ _. tt), (((λ q. entry_keyless shared_view z.strips_name z.place _), bucket_keyless z.slots_name z.bucket z.slots), λ n. ((λ _. tt), everything_keyless (core_of z))))

    pub owns_keyless : Keyless (words_own R own c holds p z)
    owns_keyless = (tt, (told_in_keyless, everything_keyless (core_of z)))

    pub shares_keyless : (ν : Lft) → Keyless (words_share R own c holds p z ν)
    shares_keyless ν = ((λ _. tt), told_in_keyless)
