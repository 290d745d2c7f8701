-- What the first operation of a lookup tells its seat, on a map that has no table; and what the operation of a row does.
mod Aside
mod Ends
mod Listed
mod Owners
use Rattle.std.specs.Prelude.{ℕ, ◌==◌, Bool, List, [], ◌∷◌, Option, Some, None}
use Rattle.std.proofs.Common.{inl, inr, refl, subst, ap}
use Rattle.seize_words.specs.OneMemory.Mem.{Mem}
use Rattle.seize_words.specs.OneMemory.Op.{Load, Store, Found, Stored}
use Rattle.seize_words.specs.declared.at.At.TheVariants.{Root, Slot}
use Rattle.map_tables.specs.declared.node.Node.{Node}
use Rattle.map_tables.specs.declared.node.Node.TheVariants.{Pair}
use Rattle.map_tables.specs.declared.resize_mode.ResizeMode.TheVariants.{Incremental}
use Rattle.map_tables.specs.declared.setting.Setting.{Setting}
use Rattle.papaya_raw.specs.declared.machines.machine.Machine.{Machine}
use Rattle.papaya_raw.specs.declared.machines.answer.KeyAnswer.{KeyAnswer}
use Rattle.papaya_raw.specs.declared.machines.answer.KeyAnswer.TheVariants.{Absent, Found as FoundThere, Replaced}
use Rattle.papaya_raw.specs.declared.machines.progress.Answer.TheVariants.{Key}
use Rattle.papaya_raw.specs.declared.machines.progress.Progress.{Progress}
use Rattle.papaya_raw.specs.declared.machines.progress.Progress.TheVariants.{Done, Unstored}
use Rattle.seize.specs.declared.states.TheConstants.{HEAD, ACTIVE}
use Rattle.many_acts.specs.Acts.Acts.{Get, Insert}
use Rattle.seize_views.specs.declared.view.Has.TheVariants.{Nothing as NoBlock}
use Rattle.seize_views.specs.Views.Promises.{IsNext}
use Rattle.seize_views.specs.declared.view.Becomes.TheVariants.{Idle}
use Rattle.seize_views.specs.declared.view.Fixed.{Fixed}
use Rattle.seize_views.specs.declared.view.SlotView.{SlotView}
use Rattle.seize_views.specs.declared.view.SlotView.TheVariants.{Outside, Enters, Inside, Leaves}
use Rattle.threads_kinds.specs.CallKinds.Kinds.{PairIsVisible}
use Rattle.threads_kinds.specs.CallKinds.Shows.{AnsweredAreVisible}
use Rattle.threads_rule.specs.Views.Begun.{machine_for, with_slot}
use Rattle.threads_rule.specs.Views.Looks.{shown_in}
use Rattle.threads_rule.specs.Views.Notes.{notes_of}
use Rattle.seize_views.specs.declared.view.Began.TheVariants.{NotYet, Section}
use Rattle.threads_rule.specs.Views.Told.{HandsBack, told, call_after, untold}
use Rattle.threads_rule.specs.declared.view.Map.{Map}
use Rattle.threads_rule.specs.declared.view.BegunCall.{BegunCall}
use Rattle.threads_rule.specs.declared.view.View.{View}
use Rattle.threads_rule.specs.declared.view.SeatWork.{SeatWork}
use Rattle.threads_rule.specs.declared.view.SeatWork.TheVariants.{Nothing, Calls}

-- batches of 32 blocks, and four roots
abbrev chosen : Fixed
chosen = record { batch_size = 32; roots = 4; chains = 0 }

abbrev same : ℕ → ℕ → Bool
same a b = a == b

abbrev hash : ℕ → ℕ → ℕ
hash hasher key = key

abbrev setting : Setting
setting = record { slot = 0; batch_size = 32; root = 3; mode = Incremental 64; counter = 1; mask = 0; initial = 8 }

abbrev map : Map ℕ
map = record { number = 0; setting = setting; hasher = 0 }

abbrev machine : Machine ℕ ℕ ℕ
machine = machine_for same hash map 0 (Get 5)

-- it has begun just this call, which has told this
abbrev ran : Progress (Node ℕ ℕ) → List (BegunCall ℕ ℕ)
ran told = record { map = 0; began = machine; told = told } ∷ []

abbrev with_work : SeatWork ℕ ℕ ℕ → View ℕ ℕ ℕ
with_work work = record { slot = Inside 0 NoBlock; under = None; by = None; own = None; map = Some map; work = work; looks = []; held = []; began = NotYet; calls = ran untold }

abbrev answered : KeyAnswer → View ℕ ℕ ℕ
answered answer = record (with_work Nothing) { calls = ran (Done (Key answer)) }

-- no root leads anywhere
abbrev no_tables : Mem (Node ℕ ℕ)
no_tables = record { roots = 0 ∷ 0 ∷ 0 ∷ 0 ∷ []; used = []; slots = []; blocks = []; choices = [] }

-- the root leads nowhere: the call has ended, and has answered that the key is not there
ends : told same hash (with_work (Calls machine)) (Load (Root 3)) (Found 0) (answered Absent)
ends = (_, refl, refl, tt, (no_tables, no_tables, (Found 0, (refl, refl), refl)), tt, (λ reads word tells. absurd reads, λ word none. absurd none))

-- and not that it is
abbrev last_told : List (BegunCall ℕ ℕ) → Progress (Node ℕ ℕ)
last_told [] = untold
last_told (run ∷ before) = run.told

not_found : told same hash (with_work (Calls machine)) (Load (Root 3)) (Found 0) (answered (FoundThere 8)) → ⊥
not_found (end, follows, is, may, came, hands, shows) =
    let last = ap (λ (v : View ℕ ℕ ℕ). last_told v.calls) is in let told = ap (λ (e : Machine ℕ ℕ ℕ × Progress (Node ℕ ℕ)). e.1) follows in cc (last, told)

-- and does not go on
not_on : (told same hash (with_work (Calls machine)) (Load (Root 3)) (Found 0) (with_work (Calls machine))) → ⊥
not_on (end, follows, is, may, came, hands, shows) =
    let work = ap (λ (v : View ℕ ℕ ℕ). v.work) is in
    let then = ap (λ (e : Machine ℕ ℕ ℕ × Progress (Node ℕ ℕ)). call_after {S = ℕ} e.0 e.1) follows in cc (work, then)

-- a call that has begun to store a pair hands that one back, and no other one
abbrev stores : List (BegunCall ℕ ℕ)
stores = record { map = 0; began = machine_for same hash map 0 (Insert 5 7); told = untold } ∷ []

hands_no_other : HandsBack stores (Unstored (Pair 5 8)) → ⊥
hands_no_other hands = let is = hands (Pair 5 7) refl in cc is

-- one that has answered with two pairs shows both
abbrev two : ℕ → Option (Node ℕ ℕ)
two b = shown_in ((1, Pair 5 7) ∷ (2, Pair 5 8) ∷ []) b

shows_both : AnsweredAreVisible (Done (Key (Replaced 2048 4096))) two
shows_both word (inl old) = subst (λ (w : ℕ). PairIsVisible two w) old (5, 7, refl)
shows_both word (inr new) = subst (λ (w : ℕ). PairIsVisible two w) new (5, 8, refl)

not_one : AnsweredAreVisible {K = ℕ} {V = ℕ} (Done (Key (Replaced 2048 6144))) two → ⊥
not_one shows = let new = shows 6144 (inr refl) in let is = new.2 in cc is

-- while it is under way no row begins, and once it has ended the section may end
none_begins : (u : SlotView (Node ℕ ℕ)) → IsNext chosen (notes_of (with_work (Calls machine))).knows u → ⊥
none_begins u is = is

may_leave : IsNext chosen (notes_of (with_work Nothing)).knows (Leaves 0 32 Idle)
may_leave = inl (Idle, refl)

-- the one operation of entering opens the section, and leaves no slot behind that is held outside of one
abbrev enters : View ℕ ℕ ℕ
enters = with_slot (with_work Nothing) (Enters 0) Section

entered : told same hash enters (Store (Slot 0 HEAD) ACTIVE) Stored (with_slot enters (Inside 0 NoBlock) Section)
entered = (Inside 0 NoBlock, refl, refl)

not_outside : told same hash enters (Store (Slot 0 HEAD) ACTIVE) Stored (with_slot enters (Outside 0) Section) → ⊥
not_outside (slot, tells, is) = let knows = ap (λ (v : View ℕ ℕ ℕ). v.slot) is in cc (knows, tells)
