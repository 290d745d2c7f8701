-- What a call under way has taken out of its map, and is to hand over, by where its machine stands: a pair, or tables by their turns.
use Rattle.std.specs.Prelude.{◌≡◌, ◌≢◌, ℕ, ◌==◌, List, [], ◌∷◌, ◌++◌, Option, Some, None, if◌then◌else◌}
use Rattle.run_places.specs.Given.SeizeWordsWord.{block_in}
use Rattle.run_places.specs.Given.ResizeDeclared.copier.Copier.{Copier}
use Rattle.run_places.specs.Given.ResizeDeclared.copier.Copying.{Copying}
use Rattle.run_places.specs.Given.ResizeDeclared.copier.Copying.TheVariants as copying
use Rattle.run_places.specs.Given.ReservesDeclared.reserve.Reserving.{Reserving}
use Rattle.run_places.specs.Given.ReservesDeclared.reserve.Reserving.TheVariants as reserving
use Rattle.run_places.specs.Given.ReservesDeclared.sweep.Sweeping.{Sweeping}
use Rattle.run_places.specs.Given.ReservesDeclared.sweep.Sweeping.TheVariants as sweeping
use Rattle.run_places.specs.Given.RawDeclared.machines.call.Calling.{Calling}
use Rattle.run_places.specs.Given.RawDeclared.machines.call.Calling.TheVariants as calling
use Rattle.run_places.specs.Given.RawDeclared.machines.machine.Machine.{Machine}
use Rattle.run_places.specs.Given.RawDeclared.machines.machine.Machine.TheVariants as kinds
use Rattle.run_places.specs.Given.RunsDeclared.effect.Thing.{Thing}
use Rattle.run_places.specs.Given.RunsDeclared.effect.Thing.TheVariants.{APair, ATable}
use Rattle.run_places.specs.Given.SchedulesEffects.{passed}
use Rattle.run_places.specs.Given.SchedulesMoment.{UnderWay as CallThere, Moment}
use Rattle.run_places.specs.Given.SchedulesViews.{call_of}
use Rattle.owner_facts.specs.Given.CallersTogether.{UnderWay}
use Rattle.run_places.specs.Given.EffectsKnown.{Known}
use Rattle.run_places.specs.Given.EffectsDeclared.role.Role.{Role}
use Rattle.run_places.specs.Given.EffectsDeclared.role.Role.TheVariants as role
use Rattle.owner_facts.specs.Given.FinishesMachines.{machine_of}
use Rattle.run_debts.specs.Due.{due_in_settle, word_due}
use Rattle.run_debts.specs.InHand.{pair_in_calling, pair_in_sweeping}
use Rattle.run_places.specs.Given.ScenesScene.{Scene}

-- what a block is, by what is noted of it: a pair, or a table, of a map
abbrev pub thing_as : Role → List Thing
thing_as (role.Pair n) = APair n ∷ []
thing_as (role.Table t len) = ATable t ∷ []
thing_as _ = []

-- what a word names, if there is one
abbrev pub things_at : Known → Option ℕ → List Thing
things_at known None = []
things_at known (Some word) = thing_as (known.roles (block_in word))

-- the tables of a map from this one up to that with this turn
abbrev pub tables_up_to : ℕ → Role → List Thing
tables_up_to turn (role.Table t len) = passed t.map t.turn turn
tables_up_to turn _ = []

-- those from the one that a word names up to a copier's target, if it names one
abbrev pub tables_from : Known → Copier → ℕ → List Thing
tables_from known p word = if word == 0 then [] else tables_up_to p.target.turn (known.roles (block_in word))

-- a copier that has made its target the root has the tables in hand that the root has left, one after another; one that retires a table has that, and those behind it
abbrev pub tables_in_hand : Known → Copier → Copying → List Thing
tables_in_hand known p copying.Announces = tables_from known p p.source.link
tables_in_hand known p (copying.Succeeds table) = tables_from known p table
tables_in_hand known p (copying.Retires settle rest) = things_at known (word_due (due_in_settle settle settle.stands)) ++ tables_from known p rest
tables_in_hand known p _ = []

abbrev pub in_hand_of_call : Known → Calling → List Thing
in_hand_of_call known (calling.Helps copier goal) = tables_in_hand known copier copier.stands
in_hand_of_call known (calling.Copies copier) = tables_in_hand known copier copier.stands
in_hand_of_call known p = things_at known (pair_in_calling p)

abbrev pub in_hand_of_room : Known → Reserving → List Thing
in_hand_of_room known (reserving.Copies copier) = tables_in_hand known copier copier.stands
in_hand_of_room known _ = []

abbrev pub in_hand_of_sweep : Known → Sweeping → List Thing
in_hand_of_sweep known (sweeping.Copies copier) = tables_in_hand known copier copier.stands
in_hand_of_sweep known p = things_at known (pair_in_sweeping p)

abbrev pub in_hand : {K V Q : Type 0} → Known → Machine K V Q → List Thing
in_hand known (kinds.Key p) = in_hand_of_call known p.stands
in_hand known (kinds.Reserve r) = in_hand_of_room known r.stands
in_hand known (kinds.Sweep c) = in_hand_of_sweep known c.stands
in_hand known (kinds.Count sum) = []

abbrev pub IsPairRole : Role → Type 0
IsPairRole (role.Pair n) = Unit {0}
IsPairRole _ = ⊥

abbrev pub IsTableRole : Role → Type 0
IsTableRole (role.Table t len) = Unit {0}
IsTableRole _ = ⊥

-- This is so of each block that it has in hand, of that one of a pair, and of that one of a table: of its word, if there is one.
module _ (P : ℕ → Type 0) where
  abbrev pub HoldsAt : Option ℕ → Type 0
  HoldsAt None = Unit {0}
  HoldsAt (Some word) = P (block_in word)

  abbrev pub HoldsOf : ℕ → Type 0
  HoldsOf word = word ≢ 0 → P (block_in word)

  abbrev pub HoldsTables : Copier → Copying → Type 0
  HoldsTables p copying.Announces = HoldsOf p.source.link
  HoldsTables p (copying.Succeeds table) = HoldsOf table
  HoldsTables p (copying.Retires settle rest) = HoldsAt (word_due (due_in_settle settle settle.stands)) × HoldsOf rest
  HoldsTables p _ = Unit {0}

module _ (OfPair OfTable : ℕ → Type 0) where
  abbrev pub HoldsOfCall : Calling → Type 0
  HoldsOfCall (calling.Helps copier goal) = HoldsTables OfTable copier copier.stands
  HoldsOfCall (calling.Copies copier) = HoldsTables OfTable copier copier.stands
  HoldsOfCall p = HoldsAt OfPair (pair_in_calling p)

  abbrev pub HoldsOfRoom : Reserving → Type 0
  HoldsOfRoom (reserving.Copies copier) = HoldsTables OfTable copier copier.stands
  HoldsOfRoom _ = Unit {0}

  abbrev pub HoldsOfSweep : Sweeping → Type 0
  HoldsOfSweep (sweeping.Copies copier) = HoldsTables OfTable copier copier.stands
  HoldsOfSweep p = HoldsAt OfPair (pair_in_sweeping p)

  abbrev pub HoldsOfPending : {K V Q : Type 0} → Machine K V Q → Type 0
  HoldsOfPending (kinds.Key p) = HoldsOfCall p.stands
  HoldsOfPending (kinds.Reserve r) = HoldsOfRoom r.stands
  HoldsOfPending (kinds.Sweep c) = HoldsOfSweep c.stands
  HoldsOfPending (kinds.Count sum) = Unit {0}

-- what it has in hand is noted: that of each pair's word as a pair, and that of each table's as a table
module _ (known : Known) where
  abbrev pub IsPairAt : ℕ → Type 0
  IsPairAt b = IsPairRole (known.roles b)

  abbrev pub IsTableAt : ℕ → Type 0
  IsTableAt b = IsTableRole (known.roles b)

  abbrev pub NotesPair : Option ℕ → Type 0
  NotesPair o = HoldsAt IsPairAt o

  abbrev pub NotesDue : Option ℕ → Type 0
  NotesDue o = HoldsAt IsTableAt o

  abbrev pub NotesTable : ℕ → Type 0
  NotesTable word = HoldsOf IsTableAt word

  abbrev pub NotesTables : Copier → Copying → Type 0
  NotesTables p stands = HoldsTables IsTableAt p stands

  abbrev pub NotesOfCall : Calling → Type 0
  NotesOfCall p = HoldsOfCall IsPairAt IsTableAt p

  abbrev pub NotesOfRoom : Reserving → Type 0
  NotesOfRoom p = HoldsOfRoom IsPairAt IsTableAt p

  abbrev pub NotesOfSweep : Sweeping → Type 0
  NotesOfSweep p = HoldsOfSweep IsPairAt IsTableAt p

  abbrev pub NotesPending : {K V Q : Type 0} → Machine K V Q → Type 0
  NotesPending machine = HoldsOfPending IsPairAt IsTableAt machine

-- each block of it is what it was
module _ (known known2 : Known) where
  abbrev pub IsSameRole : ℕ → Type 0
  IsSameRole b = known2.roles b ≡ known.roles b

  abbrev pub SamePending : {K V Q : Type 0} → Machine K V Q → Type 0
  SamePending machine = HoldsOfPending IsSameRole IsSameRole machine

-- each call under way owes just what it has in hand, in the order in which it hands that over, and all of it is noted
pub record RefinesObligations {K V : Type 0} (name : ℕ → List ℕ) (m : Moment K V) (known : Known) (s : Scene K V) : Type 0 where
  pub owed : (map i : ℕ) (u : UnderWay K V K) → s.calls map i ≡ Some u → (c : CallThere K V) → call_of (name i) m ≡ Some c → c.owes ≡ in_hand known (machine_of u)
  pub noted : (map i : ℕ) (u : UnderWay K V K) → s.calls map i ≡ Some u → NotesPending known (machine_of u)
