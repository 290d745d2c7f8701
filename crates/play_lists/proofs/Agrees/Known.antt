-- No block has the number 0: whatever an operation has changed, nothing is known there.
use Rattle.std.specs.Prelude.{◌<◌, ◌≢◌, ◌==◌, nat_le, Ok, Err, if◌then◌else◌}
use Rattle.std.proofs.Common.{◌≡◌, ℕ, ◌+◌, Bool, true, false, refl, ap, sym, subst, ◌∙◌, arith}
use Rattle.std.proofs.lemmas.Bool.{ne_eqb}
use Rattle.run_schedules.specs.Given.SeizeWordsMem.{Mem, Took}
use Rattle.run_schedules.specs.Given.SeizeWordsOp.{Op, Out, Load, Store, Swap, Add, Or, Exchange, Make, Take, Rewrite, Room, Found, Exchanged, Made, Roomed}
use Rattle.run_schedules.specs.Given.SeizeWordsPlan.{Plan, Turn, Do}
use Rattle.run_schedules.specs.Given.SeizeWordsWord.{block_in}
use Rattle.run_schedules.specs.Given.SeizeWordsDeclared.at.At.TheVariants.{Root, Used, Slot, Entry, Word}
use Rattle.map_tables.specs.declared.node.Node.{Node}
use Rattle.map_tables.specs.declared.table_words.TheConstants.{NEXT}
use Rattle.run_finds.specs.Given.TellsSeen.{seen_of}
use Rattle.run_finds.specs.Given.TellerTells.{StepsObserved, observed_of}
use Rattle.run_kept.specs.Given.EffectsDeclared.changed.Changed.{Changed}
use Rattle.run_kept.specs.Given.EffectsDeclared.changed.Changed.TheVariants as changed
use Rattle.run_kept.specs.Given.EffectsEffects.{in_block_on, in_table_on, is_place, known_after, linked_on, made_role, named, names_same, stored_on, table_at}
use Rattle.run_kept.specs.Given.EffectsKnown.{Known, with_role}
use Rattle.run_kept.specs.Given.EffectsDeclared.acting.Acting.{Acting}
use Rattle.run_kept.specs.Given.EffectsDeclared.role.Role.{Role}
use Rattle.run_kept.specs.Given.EffectsDeclared.role.Role.TheVariants as role

-- a block that is made has another number
abbrev pub MakesSome : Changed → Type 0
MakesSome (changed.Made kind b) = 0 < b
MakesSome told = Unit {0}

module _ {K V : Type 0} where
  op_makes : (m n : Mem (Node K V)) (op : Op (Node K V)) (out : Out (Node K V)) → Took m op out n → MakesSome (observed_of op out (seen_of m op out))
  op_makes m n (Load at) out took = tt
  op_makes m n (Store at word) out took = tt
  op_makes m n (Swap at word) (Found before) took = tt
  op_makes m n (Swap at word) _ took = tt
  op_makes m n (Add at by) (Found before) took = tt
  op_makes m n (Add at by) _ took = tt
  op_makes m n (Or at bits) (Found before) took = tt
  op_makes m n (Or at bits) _ took = tt
  op_makes m n (Exchange at old new) (Exchanged (Ok word)) took = tt
  op_makes m n (Exchange at old new) _ took = tt
  op_makes m n (Make value words) (Made (Ok b)) took = took.0.0.1
  op_makes m n (Make value words) (Made (Err back)) took = tt
  op_makes m n (Make value words) _ took = tt
  op_makes m n (Take b) out took = tt
  op_makes m n (Rewrite b value) out took = tt
  op_makes m n (Room bucket) (Roomed roomed) took = tt
  op_makes m n (Room bucket) _ took = tt

  pub step_makes : {R : Type 0} (m n : Mem (Node K V)) (told : Changed) (plan : Plan (Node K V) R) (end : R) → StepsObserved K V R m changed.Nothing plan n told end → MakesSome told
  step_makes m n told (Turn rest) end steps = subst MakesSome (sym steps.2) tt
  step_makes m n told (Do op rest) end steps = subst MakesSome (sym steps.1.1) (op_makes m n op steps.0 steps.1.0)

-- nothing is known of block 0
abbrev pub NoneAtZero : Known → Type 0
NoneAtZero known = known.roles 0 ≡ role.Free

-- so it is where another block, or none, has another role
role_at : (b : ℕ) (r : Role) (known : Known) → 0 ≢ b → NoneAtZero known → NoneAtZero (with_role b r known)
role_at b r known other none = ap (λ (q : Bool). if q then r else known.roles 0) (ne_eqb 0 b other) ∙ none

-- a block of which something is known is another one
is_other : (b : ℕ) (r : Role) (known : Known) → NoneAtZero known → known.roles b ≡ r → (r ≡ role.Free → ⊥) → 0 ≢ b
is_other b r known none is not e = not (sym is ∙ ap known.roles (sym e) ∙ none)

module _ (who : Acting) (known : Known) (none : NoneAtZero known) where
  link_so : (b : ℕ) (r : Role) → known.roles b ≡ r → NoneAtZero (linked_on who b r known)
  link_so b (role.OwnTable turn shape) is = role_at b (role.Table (table_at who turn) shape.len) known (is_other b (role.OwnTable turn shape) known none is (λ e. cc e)) none
  link_so b role.Free is = none
  link_so b (role.OwnPair c) is = none
  link_so b (role.Counter m) is = none
  link_so b (role.Pair k) is = none
  link_so b (role.Table t len) is = none

  store_so : (b : ℕ) (r : Role) → known.roles b ≡ r → NoneAtZero (stored_on b r known)
  store_so b (role.OwnPair c) is =
      ap (λ (q : Bool). if q then role.Pair (known.stored + 1) else known.roles 0) (ne_eqb 0 b (is_other b (role.OwnPair c) known none is (λ e. cc e))) ∙ none
  store_so b role.Free is = none
  store_so b (role.OwnTable turn shape) is = none
  store_so b (role.Counter m) is = none
  store_so b (role.Pair k) is = none
  store_so b (role.Table t len) is = none

  either_so : (q : Bool) (a b : Known) → NoneAtZero a → NoneAtZero b → NoneAtZero (if q then a else b)
  either_so true a b x y = x
  either_so false a b x y = y

  table_so : (len field b : ℕ) (r : Role) → known.roles b ≡ r → NoneAtZero (in_table_on who len field b r known)
  table_so len field b r is =
      either_so (field == NEXT) (linked_on who b r known) (if is_place len field then stored_on b r known else known) (link_so b r is)
      (either_so (is_place len field) (stored_on b r known) known (store_so b r is) none)

  block_so : (there : Role) (field : ℕ) (q : Bool) (b : ℕ) (r : Role) → known.roles b ≡ r → NoneAtZero (in_block_on who there field q b r known)
  block_so (role.Table t len) field q b r is = either_so q known (in_table_on who len field b r known) none (table_so len field b r is)
  block_so role.Free field q b r is = none
  block_so (role.OwnPair c) field q b r is = none
  block_so (role.OwnTable turn shape) field q b r is = none
  block_so (role.Counter m) field q b r is = none
  block_so (role.Pair k) field q b r is = none

  pub none_then : (told : Changed) → MakesSome told → NoneAtZero (known_after who told known)
  none_then changed.Nothing makes = none
  none_then (changed.Wrote (Root r) old new) makes =
      either_so (names_same old new) known (linked_on who (block_in new) (named known new) known) none (link_so (block_in new) (named known new) refl)
  none_then (changed.Wrote (Used r) old new) makes = none
  none_then (changed.Wrote (Slot s field) old new) makes = none
  none_then (changed.Wrote (Entry b field) old new) makes = none
  none_then (changed.Wrote (Word b field) old new) makes = block_so (known.roles b) field (names_same old new) (block_in new) (named known new) refl
  none_then (changed.Made kind b) makes = role_at b (made_role who kind) known (λ e. absurd (omega (arith, e, makes))) none
  none_then (changed.Unmade kind) makes = none
  none_then (changed.Took b) makes = by (0 == b)
    where
      by : (q : Bool) → (if q then role.Free else known.roles 0) ≡ role.Free
      by true = refl
      by false = none
  none_then (changed.Roomed bucket true) makes = either_so (nat_le known.buckets bucket) (record known { buckets = bucket + 1 }) known none none
  none_then (changed.Roomed bucket false) makes = none
