-- What is left of a piece may go to another thread.
use denote.RattleType.{RattleType}
use denote.Param.Send.{IsSend, Frees}
use Rattle.core.specs.declared.alloc.Allocator.{Ghosts}
use Rattle.seize_words.proofs.OneMemory.Sent.{frame_send}
use Rattle.seize_words.specs.contracts.room.Frame.{the_row}

pub send : (T W A : RattleType) (g : Ghosts A.Denot) → IsSend T → IsSend W → IsSend A → Frees g g.dealloc_token → IsSend (the_row T W A g)
send T W A g t w a f = frame_send T W A g f
