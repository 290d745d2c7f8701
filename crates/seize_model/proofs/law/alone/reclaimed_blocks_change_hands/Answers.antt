use Rattle.seize_model.proofs.Alone.Laws.{spared_stays_in_hand, reclaimed_is_nobodys, counts_agree}
use Rattle.seize_model.proofs.law.alone.reclaimed_blocks_change_hands.Goals as goal

pub returns : goal.returns
returns c = record {
  spared = spared_stays_in_hand;
  reclaimed = reclaimed_is_nobodys;
  counts = counts_agree;
}
