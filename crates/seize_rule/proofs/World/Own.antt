-- Operations of users on words of their own, values rewritten, and choices of numbers: the world stays good.
use Rattle.std.specs.Prelude.{Option, Some, IsSome, ◌++◌}
use Rattle.std.proofs.Common.{◌≡◌, ℕ, ◌≤◌, [], ◌∷◌, length, refl, arith, subst, sym, ap, ◌∙◌}
use Rattle.seize_moves.specs.Given.SeizeWordsMem.{Mem, value_at, word_at, with_word, with_value}
use Rattle.seize_moves.specs.Given.SeizeWordsDeclared.at.At.{At}
use Rattle.seize_moves.specs.Given.SeizeWordsDeclared.at.At.TheVariants.{Root, Used, Slot, Entry, Word}
use Rattle.seize_moves.specs.Given.SeizeWorld.{World, IsOwn}
use Rattle.seize_moves.proofs.Moves.State.Together.{stays}
use Rattle.seize_moves.proofs.Memory.Words.Named.{wrote}
use Rattle.seize_moves.proofs.Memory.Words.View.{View, view, list_in, view_root, view_used, view_own}
use Rattle.seize_moves.proofs.Memory.Words.Shows.{Shows, KeepsWords, keeps_like}
use Rattle.seize_moves.proofs.Memory.Written.Own.{own_written}
use Rattle.seize_rule.proofs.Rows.Known.{ListsLast}
use Rattle.seize_moves.proofs.Memory.Words.There.{Stocked, stocked_written}
use Rattle.seize_moves.proofs.Memory.Words.Room.{HasRoom, room_written, same_length}
use Rattle.seize_moves.proofs.Memory.Words.Rewritten.{view_rewritten, stocked_rewritten}
use Rattle.seize_moves.proofs.Moves.Sets.Unmoved.{unmoved_same}
use Rattle.seize_rule.proofs.World.Good.{Good, StillGood, Stays}
use Rattle.seize_rule.proofs.World.Users.{users_good}

module _ {T : Type 0} {size : ℕ} (defers : T → Option ℕ) (n : ℕ) (w : World T) (good : Good defers n size w) where
  -- the memory alone changes, and in words that the collector doesn't read
  pub memory_good : (mem2 : Mem T) → Shows n (view defers mem2) good.state good.extra
      → ((i : ℕ) → KeepsWords i (view defers w.memory) good.state good.extra (view defers mem2) good.extra)
      → HasRoom n good.state.head mem2 → Stays defers w.memory mem2 → StillGood defers n size good.state (record w { memory = mem2 })
  memory_good mem2 v words room still =
      users_good defers n w good mem2 good.state good.extra w.hand w.log good.inv v good.pending good.logged
      (λ i. (stays n i 0 good.state good.inv).keeps) words good.hands good.used room still (λ t. refl) refl (unmoved_same n good.state)

  -- the collector sees the same
  unseen_good : (mem2 : Mem T) → view defers mem2 ≡ view defers w.memory → HasRoom n good.state.head mem2 → Stocked defers mem2
      → length w.memory.slots ≤ length mem2.slots → StillGood defers n size good.state (record w { memory = mem2 })
  unseen_good mem2 seen room stocked more =
      memory_good mem2 (subst (λ (g : View). Shows n g good.state good.extra) (sym seen) good.shows)
      (λ i. subst (λ (g : View). KeepsWords i (view defers w.memory) good.state good.extra g good.extra) (sym seen)
      (keeps_like i (view defers w.memory) good.state good.extra (view defers w.memory) refl refl refl refl refl))
      room (record { stocked = stocked; lists = subst (λ (g : View). ListsLast (view defers w.memory) g) (sym seen) (λ c d has live. has); more = more })

  pub rewritten_good : (b : ℕ) (value before : T) → value_at w.memory b ≡ Some before → defers value ≡ defers before
      → StillGood defers n size good.state (record w { memory = with_value w.memory b value })
  rewritten_good b value before is same =
      unseen_good (with_value w.memory b value) (view_rewritten w.memory b value before is defers same)
      (record { bucketed = record { there = good.room.bucketed.there; number = good.room.bucketed.number; whole = good.room.bucketed.whole }; enough = good.room.enough })
      (stocked_rewritten w.memory b value before is defers same good.stocked) at_most
    where
      at_most : length w.memory.slots ≤ length w.memory.slots
      at_most = omega arith

  pub chosen_good : (choice : ℕ) → StillGood defers n size good.state (record w { memory = record w.memory { choices = w.memory.choices ++ choice ∷ [] } })
  chosen_good choice =
      unseen_good (record w.memory { choices = w.memory.choices ++ choice ∷ [] }) refl
      (record { bucketed = record { there = good.room.bucketed.there; number = good.room.bucketed.number; whole = good.room.bucketed.whole }; enough = good.room.enough })
      (record { entries = good.stocked.entries; lists = good.stocked.lists; few = good.stocked.few }) at_most
    where
      at_most : length w.memory.slots ≤ length w.memory.slots
      at_most = omega arith

  -- a word of the users' own is written
  pub word_good : (at : At) (v : ℕ) → IsOwn defers w.memory at → IsSome (word_at w.memory at) → StillGood defers n size good.state (record w { memory = with_word w.memory at v })
  word_good (Root r) v own some =
      let one = wrote w.memory (Root r) v some in
      unseen_good (with_word w.memory (Root r) v) (view_root defers w.memory r v (with_word w.memory (Root r) v) one)
      (room_written n good.state.head w.memory (Root r) v some good.room) (stocked_written defers w.memory (Root r) v (with_word w.memory (Root r) v) one good.stocked) (same_more (Root r) v)
    where
      same_more : (at : At) (v : ℕ) → length w.memory.slots ≤ length (with_word w.memory at v).slots
      same_more at v = let e = same_length w.memory at v in omega (arith, e)
  word_good (Used r) v own some =
      let one = wrote w.memory (Used r) v some in
      unseen_good (with_word w.memory (Used r) v) (view_used defers w.memory r v (with_word w.memory (Used r) v) one)
      (room_written n good.state.head w.memory (Used r) v some good.room) (stocked_written defers w.memory (Used r) v (with_word w.memory (Used r) v) one good.stocked) (same_more (Used r) v)
    where
      same_more : (at : At) (v : ℕ) → length w.memory.slots ≤ length (with_word w.memory at v).slots
      same_more at v = let e = same_length w.memory at v in omega (arith, e)
  word_good (Slot s i) v own some = absurd own
  word_good (Entry b i) v own some = absurd own
  word_good (Word b d) v own some =
      let one = wrote w.memory (Word b d) v some in
      let mem2 = with_word w.memory (Word b d) v in
      let seen = view_own defers w.memory b d v mem2 one in
      let wrote_own = (λ (i : ℕ). own_written n i b d v (view defers w.memory) good.state good.extra good.shows other) in
      memory_good mem2 (subst (λ (g : View). Shows n g good.state good.extra) (sym seen) ((wrote_own 0).shows))
      (λ i. subst (λ (g : View). KeepsWords i (view defers w.memory) good.state good.extra g good.extra) (sym seen) ((wrote_own i).keeps))
      (room_written n good.state.head w.memory (Word b d) v some good.room)
      (record {
        stocked = stocked_written defers w.memory (Word b d) v mem2 one good.stocked;
        lists = subst (λ (g : View). ListsLast (view defers w.memory) g) (sym seen) (λ c e has live. has);
        more = (let e = same_length w.memory (Word b d) v in omega (arith, e));
      })
    where
      other : list_in defers (value_at w.memory b) ≡ Some d → ⊥
      other h = own.2 (ap (list_in defers) (sym own.1) ∙ h)
