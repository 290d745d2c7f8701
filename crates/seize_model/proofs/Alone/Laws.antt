-- What the laws promise, clause by clause: the one file of lemmas that crates above the map's rule cite.
use Rattle.std.specs.Prelude.{Option}
use Rattle.std.proofs.Common.{ℕ, ◌+◌, refl, arith}
use Rattle.seize.specs.declared.states.TheConstants.{LAST_SLOT}
use Rattle.seize_model.specs.Alone.Alone.{at_rest}
use Rattle.seize_model.specs.Alone.Laws.{HistoriesBegin, ChoicesAreQuiet, InsidesAreActive, OutsidesAreNot, WaitingWasHanded, CarriersAreThere, CarriersHaveLists, NoListNoWaiting, NobodysIsNone, RegisteredSlotsSay, CallsEndWithMore, NewSlotIsFirst, NoNewSlotNoneVacant, SparedStaysInHand, ReclaimedIsNobodys, CountsAgree}
use Rattle.seize_model.proofs.Sets.Slots.Vacant.{first_vacant_says, first_vacant_says_none}
use Rattle.seize_model.proofs.Sets.Turns.Heads.{idle_word}
use Rattle.seize_model.proofs.Alone.Histories.Calls.{history_rested}
use Rattle.seize_model.proofs.Alone.Histories.Further.{none_put_history}
use Rattle.seize_model.proofs.Alone.Histories.Hands.{times_counted, hand_spared, hand_gone}
use Rattle.seize_model.proofs.Alone.Histories.NotTaken.{nobodys}
use Rattle.seize_model.proofs.Alone.Histories.Outside.{inside_active, outside_inactive}
use Rattle.seize_model.proofs.Alone.Histories.Reached.{history_reached}
use Rattle.seize_model.proofs.Alone.Histories.Users.{start_history, chosen_history}
use Rattle.seize_model.proofs.Alone.Histories.Waiting.{held_handed, carriers_there, carriers_carry}
use Rattle.seize_model.proofs.Alone.Whole.Rest.{ends_with}

module _ {T : Type 0} (defers : T → Option ℕ) (batch_size : ℕ) where
  pub histories_begin : HistoriesBegin T defers batch_size
  histories_begin = start_history defers batch_size

  pub choices_are_quiet : ChoicesAreQuiet T defers batch_size
  choices_are_quiet = chosen_history defers batch_size

  pub insides_are_active : InsidesAreActive T defers batch_size
  insides_are_active = inside_active defers batch_size

  pub outsides_are_not : OutsidesAreNot T defers batch_size
  outsides_are_not = outside_inactive defers batch_size

  pub waiting_was_handed : WaitingWasHanded T defers batch_size
  waiting_was_handed = held_handed defers batch_size

  pub carriers_are_there : CarriersAreThere T defers batch_size
  carriers_are_there = carriers_there defers batch_size

  pub carriers_have_lists : CarriersHaveLists T defers batch_size
  carriers_have_lists = carriers_carry defers batch_size

  pub no_list_no_waiting : NoListNoWaiting T defers batch_size
  no_list_no_waiting roots m h had word = none_put_history defers batch_size roots word m h had

  pub nobodys_is_none : NobodysIsNone T defers batch_size
  nobodys_is_none roots m h had = nobodys defers batch_size (at_rest defers m h) (history_reached defers batch_size roots m h had)

  pub registered_slots_say : RegisteredSlotsSay T defers batch_size
  registered_slots_say roots m h had = idle_word defers (LAST_SLOT + 1) batch_size refl (at_rest defers m h) (history_rested defers batch_size roots m h had)

  pub calls_end_with_more : CallsEndWithMore T defers batch_size
  calls_end_with_more = ends_with defers batch_size

pub new_slot_is_first : NewSlotIsFirst
new_slot_is_first uses s new =
    let n = first_vacant_says (LAST_SLOT + 1) 0 s uses new in record {
      below = (let b = n.below in omega (arith, b));
      before = λ t l. n.none t (omega arith) l;
      vacant = n.vacant;
    }

pub no_new_slot_none_vacant : NoNewSlotNoneVacant
no_new_slot_none_vacant uses none t l = first_vacant_says_none (LAST_SLOT + 1) 0 uses none t (omega arith) (omega (arith, l))

pub spared_stays_in_hand : SparedStaysInHand
spared_stays_in_hand = hand_spared

pub reclaimed_is_nobodys : ReclaimedIsNobodys
reclaimed_is_nobodys = hand_gone

pub counts_agree : CountsAgree
counts_agree = times_counted
