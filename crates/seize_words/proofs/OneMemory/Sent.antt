-- A block may go to another thread where its value may: nothing of its piece is tied to one.
use Rattle.std.proofs.Common.{ℕ, Bool, true, false, ◌+◌, ◌*◌, List, [], ◌∷◌}
use mir.Syntax.{Ty}
use base.Fml.{Fml}
use base.Shift.{Keyless}
use denote.Param.Send.{AllSend, IsSend, owning_send, sendable, struct_send}
use denote.RattleType.{RattleType}
use denote.RawPtr.{Ptr, block_ptr, null_ptr, room_for, in_block, ◌+ₚ◌}
use denote.Struct.Owning.{fields, shape, to}
use denote.Struct.Struct.{exits_of}
use Rattle.core.specs.Mem.Slots.Ownership.{bytes_of, owned, slot, slots}
use Rattle.core.specs.contracts.slots.Slots as Slots
use Rattle.core.specs.declared.alloc.Allocator.{Ghosts}
use Rattle.std.proofs.Crossing.{crosses}
use Rattle.std_alloc.proofs.SendSync.{FreesAnywhere, lies, quiet}
use Rattle.seize_words.specs.contracts.room.Frame as Frame

room : (τ : Ty) (p : Ptr) → Keyless (room_for τ p)
room τ (block_ptr b o) = tt
room τ null_ptr = tt

inside : (p : Ptr) (F : Fml) → Keyless F → Keyless (in_block p F)
inside (block_ptr b o) F k = k
inside null_ptr F k = tt

module _ (R : RattleType) (s : IsSend R) where
  slot_keyless : (y : Bool) (p : Ptr) (x : R.Denot) → Keyless (slot R y p x)
  slot_keyless true p x = lies R s p x
  slot_keyless false p x = room _ p

  slots_keyless : (p : Ptr) (xs : List R.Denot) (fs : List Bool) → Keyless (slots R p xs fs)
  slots_keyless p [] fs = tt
  slots_keyless p (x ∷ xs) [] = tt
  slots_keyless p (x ∷ xs) (f ∷ fs) = (slot_keyless f p x, slots_keyless (p +ₚ bytes_of R) xs fs)

  owned_keyless : (p : Ptr) (n : ℕ) (xs : List R.Denot) (fs : List Bool) → Keyless (owned R p n xs fs)
  owned_keyless p n xs fs = (tt, inside p _ (slots_keyless p xs fs))

  pub slots_send : IsSend (Slots.the_row R)
  slots_send = let O = Slots.the_type R in let all : AllSend (fields O) = search (sendable, crosses) depth 20 in
      owning_send O all (λ d. owned_keyless d.ptr d.len d.items d.filled) (λ k. quiet (to O) (exits_of k (fields O)) ((struct_send (shape O) all).leaving k))

module _ (R W A : RattleType) (g : Ghosts A.Denot) (f : FreesAnywhere A.Denot g) where
  pub frame_send : IsSend (Frame.the_row R W A g)
  frame_send = let O = Frame.the_type R W A g in let all : AllSend (fields O) = search (sendable, crosses) depth 20 in
      owning_send O all (λ d. inside d.at _ ((λ short. tt), (((tt, (tt, tt)), tt), f.frees d.alloc _ d.at)))
      (λ k. quiet (to O) (exits_of k (fields O)) ((struct_send (shape O) all).leaving k))
