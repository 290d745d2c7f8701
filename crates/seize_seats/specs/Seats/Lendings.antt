-- How the value of a block is lent: it is shared for a lifetime of its own. Each lending puts a part of that lifetime's token under the stretch of a seat, so
-- the value is shared as long as the stretch lasts, and the right to have the part back, once the stretch has ended, stands with the block.
use Rattle.std.specs.Prelude.{◌≡◌, ◌≢◌, ◌⊎◌, ℕ, suc, List, [], ◌∷◌, Option, Some, None, IsSome, slice_get}
use mathlib.Mathlib.Data.Part.{◌∈◌}
use base.Fraction.{full_share}
use base.Share
use base.Share.{quarter, three_quarters}
use base.Stored.{Gv, coded×, coded_ℕ}
use base.Fml.{Lft, Share, Fml, ftrue, fsep, fex, flft, flent, finv}
use denote.RattleType.{RattleType}
use denote.Memory.{part_at, shared_of}
use Rattle.core.specs.contracts.option.Option.{the_row as OptionOf}
use Rattle.seize_words.specs.OneMemory.Mem.{value_at}
use Rattle.seize_seats.specs.Seats.State.{State, view_of}
use Rattle.seize_seats.specs.Seats.Seen.{fact, itself, seen, number_share_coded}
use Rattle.seize_seats.specs.Seats.Stretches.{stretch_shared}

-- A lending begins with a part of the stretch's token in place of what is due, and lasts once the right to the part of the value's token is there.
pub data Phase : Type 0 where
  Begins : Phase
  Lasts : Phase
  Over : Phase

-- the part that is lent, of the token of which lifetime; ν: the name of the lending
abbrev pub part : ℕ → Share → ℕ × Share → Fml
part ν q u = seen number_share_coded.code ν q 0 u

-- μ: the lifetime that a lending is for; s: the share of its token that is put in at first
module _ (μ : Lft) (ν : ℕ) (s : Share) where
  abbrev pub due : ℕ × Share → Fml
  due u = fsep (part ν three_quarters u) (flent μ (flft (u.0 ∷ []) u.1))

  abbrev pub in_phase : Phase → Fml
  in_phase Begins = flft μ s
  in_phase Lasts = fex (ℕ × Share) due
  in_phase Over = fex (ℕ × Share) (part ν full_share)

  abbrev pub account : Fml
  account = fex Phase in_phase

-- a seat to which something is lent, with its view and its stretch
pub record Holder (V : Type 0) : Type 0 where
  pub seat : ℕ
  pub view : V
  pub stretch : ℕ
  pub mark : ℕ

-- a seat that nobody has, and what it bears witness of
abbrev pub Witness : Type 0 → Type 0
Witness V = Option (ℕ × V)

-- one lending: to which two seats, which may be one, by which witness, and which part of the token
pub record Lending (V : Type 0) : Type 0 where
  pub guard : Holder V
  pub owner : Holder V
  pub witness : Witness V
  pub name : ℕ
  pub part : Share
  pub stake : Share

-- it is for as long as the stretches of both, and the lifetime of the memory
abbrev pub span : {V : Type 0} → Lft → Holder V → Holder V → Lft
span α g o = g.stretch ∷ o.stretch ∷ α

-- what is lent: the atom of its lifetime, the share of the token that is left, and the lendings, the last one first
pub record Loan (V : Type 0) : Type 0 where
  pub atom : ℕ
  pub rest : Share
  pub lendings : List (Lending V)

-- r is left of q once the parts are out
abbrev pub Left : {V : Type 0} → Share → List (Lending V) → Share → Type 0
Left q [] r = q ≡ r
Left q (l ∷ ls) r = (q' : Share) × Left q ls q' × (q' ∈ Share.op l.part r)

-- as long as the seat has this view the block is there
abbrev pub VisibleTo : {T V W : Type 0} → (State T V W → Type 0) → ℕ → V → ℕ → Type 0
VisibleTo {T} {V} {W} holds id v b = (t : State T V W) → holds t → view_of t id ≡ Some v → IsSome (value_at t.memory b)

-- as long as the one seat has this view and the other one that
abbrev pub VisibleToBoth : {T V W : Type 0} → (State T V W → Type 0) → ℕ → V → ℕ → V → ℕ → Type 0
VisibleToBoth {T} {V} {W} holds i v j u b =
    (t : State T V W) → holds t → view_of t i ≡ Some v → view_of t j ≡ Some u → IsSome (value_at t.memory b)

-- as long as three have these
abbrev pub VisibleToThree : {T V W : Type 0} → (State T V W → Type 0) → ℕ → V → ℕ → V → ℕ → V → ℕ → Type 0
VisibleToThree {T} {V} {W} holds i v j u k o b =
    (t : State T V W) → holds t → view_of t i ≡ Some v → view_of t j ≡ Some u → view_of t k ≡ Some o → IsSome (value_at t.memory b)

-- the witness, if there is one, is among these views
abbrev pub Bears : {V : Type 0} → List V → Witness V → Type 0
Bears vs None = Unit {0}
Bears vs (Some w) = slice_get vs w.0 ≡ Some w.1

-- and is another seat
abbrev pub IsAside : {V : Type 0} → ℕ → Witness V → Type 0
IsAside id None = Unit {0}
IsAside id (Some w) = w.0 ≢ id

-- as long as the one seat has this view and the other one that, by what the witness says
abbrev pub VisibleByWitness : {T V W : Type 0} → (State T V W → Type 0) → ℕ → V → ℕ → V → Witness V → ℕ → Type 0
VisibleByWitness {T} {V} {W} holds i v j u x b =
    (t : State T V W) → holds t → view_of t i ≡ Some v → view_of t j ≡ Some u → Bears t.views x → IsSome (value_at t.memory b)

-- as long as the seat has this view no other ones have views that show the block, by whichever witness
abbrev pub Alone : {T V W : Type 0} → (State T V W → Type 0) → ℕ → V → ℕ → Type 0
Alone {T} {V} {W} holds id v b =
    (t : State T V W) (i : ℕ) (w : V) (j : ℕ) (u : V) (x : Witness V) → holds t → view_of t id ≡ Some v → i ≢ id → j ≢ id → IsAside id x
    → view_of t i ≡ Some w → view_of t j ≡ Some u → Bears t.views x → VisibleByWitness holds i w j u x b → ⊥

-- it is the value of the block in a state in which the seat has this view
abbrev pub IsValueOf : {T V W : Type 0} → (State T V W → Type 0) → ℕ → V → ℕ → T → Type 0
IsValueOf {T} {V} {W} holds id v b x = (t : State T V W) × holds t × (view_of t id ≡ Some v) × (value_at t.memory b ≡ Some x)

-- the same of two seats with these views
abbrev pub IsValueOfBoth : {T V W : Type 0} → (State T V W → Type 0) → ℕ → V → ℕ → V → ℕ → T → Type 0
IsValueOfBoth {T} {V} {W} holds i v j u b x =
    (t : State T V W) × holds t × (view_of t i ≡ Some v) × (view_of t j ≡ Some u) × (value_at t.memory b ≡ Some x)

-- and in which this is so
abbrev pub IsValueSo : {T V W : Type 0} → (State T V W → Type 0) → ℕ → V → ℕ → V → (State T V W → Type 0) → ℕ → T → Type 0
IsValueSo {T} {V} {W} holds i v j u also b x =
    (t : State T V W) × holds t × (view_of t i ≡ Some v) × (view_of t j ≡ Some u) × also t × (value_at t.memory b ≡ Some x)

-- in which three seats have these views
abbrev pub IsValueBy : {T V W : Type 0} → (State T V W → Type 0) → ℕ → V → ℕ → V → ℕ → V → ℕ → T → Type 0
IsValueBy holds i v j u k o b x = IsValueSo holds j u k o (λ s. view_of s i ≡ Some v) b x

module _ (R : RattleType) (α : Lft) {V W : Type 0} (c : V → Gv) (γ : ℕ) (holds : State R.Denot V W → Type 0) where
  -- both views show the block, by what the witness says, and the seats are two, or one with one view
  abbrev pub AreShown : ℕ → Holder V → Holder V → Witness V → Type 0
  AreShown i g o x =
      VisibleByWitness holds g.seat g.view o.seat o.view x (suc i) × ((g.seat ≢ o.seat) ⊎ ((g.seat ≡ o.seat) × (g.view ≡ o.view)))

  -- what the witness has of its view, which stays as it is
  abbrev pub witnessed : Witness V → Fml
  witnessed None = ftrue
  witnessed (Some w) = seen c γ three_quarters w.0 w.1

  abbrev pub told : Holder V → Fml
  told h = stretch_shared c γ h.seat h.view h.stretch h.mark

  -- what stands with the block of one lending: whose it is, and that the seats' views show the block as long as their stretches last
  abbrev pub lending : ℕ → ℕ → Lending V → Fml
  lending i a l =
      fsep (part l.name quarter (a, l.part))
      (fsep (finv (account (span α l.guard l.owner) l.name l.stake))
      (fsep (fsep (fsep (told l.guard) (told l.owner)) (witnessed l.witness)) (fact (AreShown i l.guard l.owner l.witness))))

  abbrev pub lendings : ℕ → ℕ → List (Lending V) → Fml
  lendings i a [] = ftrue
  lendings i a (l ∷ ls) = fsep (lending i a l) (lendings i a ls)

  abbrev pub loan : ℕ → R.Denot → ℕ → ℕ → Loan V → Fml
  loan i x b o n =
      fsep (shared_of (OptionOf R) (Some x) b o (n.atom ∷ []))
      (fsep (flent (n.atom ∷ []) (part_at (OptionOf R) full_share (Some x) b o))
      (fsep (flft (n.atom ∷ []) n.rest) (fsep (fact (Left full_share n.lendings n.rest)) (lendings i n.atom n.lendings))))

  -- what is noted of a value that a call has in its hand: the value, and the seat with its view
  abbrev pub note : ℕ → Share → R.Denot → ℕ → V → Fml
  note ρ q x id v = seen (coded× R.coded (coded× coded_ℕ itself)).code ρ q 0 (x, (id, c v))

  -- The value of the block of the i-th number is in the hand of a call of a seat, of whose view nobody else has a share meanwhile, and which has the block
  -- to itself.
  abbrev pub in_hand : ℕ → ℕ → R.Denot → Fml
  in_hand ρ i x =
      fex (ℕ × V) (λ u. fsep (note ρ quarter x u.0 u.1) (fsep (seen c γ three_quarters u.0 u.1) (fact (Alone holds u.0 u.1 (suc i)))))

  -- the value of the block of the i-th number, at its place
  abbrev pub lendable : ℕ → R.Denot → ℕ → ℕ → Fml
  lendable i x b o = fex (Loan V) (loan i x b o)
