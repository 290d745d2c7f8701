-- What a call has in hand is the same things as long as its blocks are what they were; and so they are where blocks that were linked are.
use Rattle.std.specs.Prelude.{◌≡◌, ℕ, ◌==◌, Bool, true, false, List, [], ◌++◌, Option, Some, None, if◌then◌else◌}
use Rattle.std.proofs.Common.{refl, ap, sym, subst, ◌∙◌}
use Rattle.std.proofs.lemmas.Bool.{eq-eqb}
use Rattle.run_places.specs.Given.SeizeWordsWord.{block_in}
use Rattle.run_places.specs.Given.ResizeDeclared.copier.Copier.{Copier}
use Rattle.run_places.specs.Given.ResizeDeclared.copier.Copying.{Copying}
use Rattle.run_places.specs.Given.ResizeDeclared.copier.Copying.TheVariants as copying
use Rattle.run_places.specs.Given.ReservesDeclared.reserve.Reserving.{Reserving}
use Rattle.run_places.specs.Given.ReservesDeclared.reserve.Reserving.TheVariants as reserving
use Rattle.run_places.specs.Given.ReservesDeclared.sweep.Sweeping.{Sweeping}
use Rattle.run_places.specs.Given.ReservesDeclared.sweep.Sweeping.TheVariants as sweeping
use Rattle.run_places.specs.Given.RawDeclared.machines.call.Calling.{Calling}
use Rattle.run_places.specs.Given.RawDeclared.machines.call.Calling.TheVariants as calling
use Rattle.run_places.specs.Given.RawDeclared.machines.machine.Machine.{Machine}
use Rattle.run_places.specs.Given.RawDeclared.machines.machine.Machine.TheVariants as kinds
use Rattle.run_places.specs.Given.RunsDeclared.effect.Thing.{Thing}
use Rattle.run_places.specs.Given.EffectsKnown.{Known}
use Rattle.run_places.specs.Given.EffectsDeclared.role.Role.{Role}
use Rattle.run_places.specs.Given.EffectsDeclared.role.Role.TheVariants as role
use Rattle.run_places.proofs.Given.FollowsOnward.{IsLasting, KeepsRoles}
use Rattle.run_debts.specs.Due.{due_in_settle, word_due}
use Rattle.run_debts.specs.Hand.{thing_as, things_at, tables_up_to, tables_from, tables_in_hand, in_hand_of_call, in_hand_of_room, in_hand_of_sweep, in_hand, IsPairRole, IsTableRole, HoldsAt, HoldsOf, HoldsTables, HoldsOfCall, HoldsOfRoom, HoldsOfSweep, HoldsOfPending, IsPairAt, IsTableAt, NotesPending, IsSameRole, SamePending}
use Rattle.run_debts.specs.InHand.{pair_in_calling, pair_in_sweeping}

pair_lasts : (r : Role) → IsPairRole r → IsLasting r
pair_lasts (role.Pair n) is = tt
pair_lasts _ is = absurd is

table_lasts : (r : Role) → IsTableRole r → IsLasting r
table_lasts (role.Table t len) is = tt
table_lasts _ is = absurd is

module _ (known known2 : Known) where
  -- where its blocks are what they were, it is the same things

  things_same : (o : Option ℕ) → HoldsAt (IsSameRole known known2) o → things_at known2 o ≡ things_at known o
  things_same None same = refl
  things_same (Some word) same = ap thing_as same

  tables_same : (p : Copier) (word : ℕ) → HoldsOf (IsSameRole known known2) word → tables_from known2 p word ≡ tables_from known p word
  tables_same p word same = by (word == 0) refl
    where
      by : (q : Bool) → (word == 0) ≡ q
          → (if q then [] else tables_up_to p.target.turn (known2.roles (block_in word))) ≡ (if q then [] else tables_up_to p.target.turn (known.roles (block_in word)))
      by true e = refl
      by false e = ap (tables_up_to p.target.turn) (same (λ zero. (let yes = eq-eqb word 0 zero in cc (e, yes))))

  copier_same : (p : Copier) (stands : Copying) → HoldsTables (IsSameRole known known2) p stands → tables_in_hand known2 p stands ≡ tables_in_hand known p stands
  copier_same p copying.Announces same = tables_same p p.source.link same
  copier_same p (copying.Succeeds table) same = tables_same p table same
  copier_same p (copying.Retires settle rest) same =
      ap (λ (l : List Thing). l ++ tables_from known2 p rest) (things_same (word_due (due_in_settle settle settle.stands)) same.0)
      ∙ ap (λ (l : List Thing). things_at known (word_due (due_in_settle settle settle.stands)) ++ l) (tables_same p rest same.1)
  copier_same p _ same = refl

  call_same : (p : Calling) → HoldsOfCall (IsSameRole known known2) (IsSameRole known known2) p → in_hand_of_call known2 p ≡ in_hand_of_call known p
  call_same (calling.Helps copier goal) same = copier_same copier copier.stands same
  call_same (calling.Copies copier) same = copier_same copier copier.stands same
  call_same p same = things_same (pair_in_calling p) same

  room_same : (p : Reserving) → HoldsOfRoom (IsSameRole known known2) (IsSameRole known known2) p → in_hand_of_room known2 p ≡ in_hand_of_room known p
  room_same (reserving.Copies copier) same = copier_same copier copier.stands same
  room_same _ same = refl

  sweep_same : (p : Sweeping) → HoldsOfSweep (IsSameRole known known2) (IsSameRole known known2) p → in_hand_of_sweep known2 p ≡ in_hand_of_sweep known p
  sweep_same (sweeping.Copies copier) same = copier_same copier copier.stands same
  sweep_same p same = things_same (pair_in_sweeping p) same

  pub hand_same : {K V Q : Type 0} (machine : Machine K V Q) → SamePending known known2 machine → in_hand known2 machine ≡ in_hand known machine
  hand_same (kinds.Key p) same = call_same p.stands same
  hand_same (kinds.Reserve r) same = room_same r.stands same
  hand_same (kinds.Sweep c) same = sweep_same c.stands same
  hand_same (kinds.Count sum) same = refl

-- what is so of each block that it has in hand, for two reasons
module _ (P P1 P2 Q Q1 Q2 : ℕ → Type 0) (pairs : (b : ℕ) → P b → P1 b → P2 b) (tables : (b : ℕ) → Q b → Q1 b → Q2 b) where
  at_both : (o : Option ℕ) → HoldsAt P o → HoldsAt P1 o → HoldsAt P2 o
  at_both None is so = tt
  at_both (Some word) is so = pairs (block_in word) is so

  due_both : (o : Option ℕ) → HoldsAt Q o → HoldsAt Q1 o → HoldsAt Q2 o
  due_both None is so = tt
  due_both (Some word) is so = tables (block_in word) is so

  copier_both : (p : Copier) (stands : Copying) → HoldsTables Q p stands → HoldsTables Q1 p stands → HoldsTables Q2 p stands
  copier_both p copying.Announces is so = λ some. tables (block_in p.source.link) (is some) (so some)
  copier_both p (copying.Succeeds table) is so = λ some. tables (block_in table) (is some) (so some)
  copier_both p (copying.Retires settle rest) is so = (due_both (word_due (due_in_settle settle settle.stands)) is.0 so.0, λ some. tables (block_in rest) (is.1 some) (so.1 some))
  copier_both p _ is so = tt

  call_both : (p : Calling) → HoldsOfCall P Q p → HoldsOfCall P1 Q1 p → HoldsOfCall P2 Q2 p
  call_both (calling.Helps copier goal) is so = copier_both copier copier.stands is so
  call_both (calling.Copies copier) is so = copier_both copier copier.stands is so
  call_both p is so = at_both (pair_in_calling p) is so

  room_both : (p : Reserving) → HoldsOfRoom P Q p → HoldsOfRoom P1 Q1 p → HoldsOfRoom P2 Q2 p
  room_both (reserving.Copies copier) is so = copier_both copier copier.stands is so
  room_both _ is so = tt

  sweep_both : (p : Sweeping) → HoldsOfSweep P Q p → HoldsOfSweep P1 Q1 p → HoldsOfSweep P2 Q2 p
  sweep_both (sweeping.Copies copier) is so = copier_both copier copier.stands is so
  sweep_both p is so = at_both (pair_in_sweeping p) is so

  pub hand_both : {K V M : Type 0} (machine : Machine K V M) → HoldsOfPending P Q machine → HoldsOfPending P1 Q1 machine → HoldsOfPending P2 Q2 machine
  hand_both (kinds.Key p) is so = call_both p.stands is so
  hand_both (kinds.Reserve r) is so = room_both r.stands is so
  hand_both (kinds.Sweep c) is so = sweep_both c.stands is so
  hand_both (kinds.Count sum) is so = tt

module _ (known known2 : Known) where
  -- and is noted as it was
  pub hand_noted : {K V M : Type 0} (machine : Machine K V M) → SamePending known known2 machine → NotesPending known machine → NotesPending known2 machine
  hand_noted machine =
      hand_both (IsSameRole known known2) (IsPairAt known) (IsPairAt known2) (IsSameRole known known2) (IsTableAt known) (IsTableAt known2)
      (λ b same noted. subst IsPairRole (sym same) noted) (λ b same noted. subst IsTableRole (sym same) noted) machine

  -- such blocks last
  pub hand_kept : KeepsRoles known known2 → {K V M : Type 0} (machine : Machine K V M) → NotesPending known machine → SamePending known known2 machine
  hand_kept keeps machine noted =
      hand_both (IsPairAt known) (IsPairAt known) (IsSameRole known known2) (IsTableAt known) (IsTableAt known) (IsSameRole known known2)
      (λ b is so. keeps b (pair_lasts (known.roles b) is)) (λ b is so. keeps b (table_lasts (known.roles b) is)) machine noted noted
