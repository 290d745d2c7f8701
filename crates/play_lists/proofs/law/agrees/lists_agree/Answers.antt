-- Histories of lists of acts agree with what is so.
use Rattle.play_lists.proofs.Agrees.Agree.{lists_agree}
use Rattle.play_lists.proofs.Agrees.Coming.{once_is_new}
use Rattle.play_lists.proofs.law.agrees.lists_agree.Goals as goal

pub returns : goal.returns
returns c d = record {
  agrees = λ same by_hasher hash batch_size roots shards. lists_agree _ same by_hasher hash batch_size roots shards;
  new = λ same by_hasher batch_size roots aborts. once_is_new _ same by_hasher (λ map key. 0) batch_size roots aborts;
}
