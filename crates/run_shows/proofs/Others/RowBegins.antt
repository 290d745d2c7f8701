-- A row begins on a slot: nothing is shown otherwise.
use Rattle.std.specs.Prelude.{◌≡◌, ℕ, Bool}
use Rattle.std.proofs.Common.{refl, ap, sym, subst}
use Rattle.seize_words.specs.OneMemory.Mem.{Mem, value_at}
use Rattle.seize.specs.World.{World, Hand, Begins, Begin}
use Rattle.run_effects.specs.Given.TablesNodes.{deferred_word}
use Rattle.run_effects.specs.Given.TablesDeclared.node.Node.{Node}
use Rattle.run_shows.specs.Follows.Blocks.{WasLinked}
use Rattle.run_shows.specs.declared.row.SlotCall.{SlotCall}
use Rattle.run_shows.specs.declared.row.SlotCall.TheVariants as call
use Rattle.run_shows.specs.Others.Rows.{scene_then, RowsBeginShown}
use Rattle.run_shows.proofs.Others.Scenes.{all_stay}
use Rattle.run_shows.proofs.Others.Stays.{StaysBlock}
use Rattle.run_shows.specs.Scenes.Rows.{request_of}
use Rattle.run_shows.specs.Scenes.Scene.{slot_of}

module _ {K V : Type 0} (size slot i : ℕ) (w w2 : World (Node K V)) where
  -- the memory is the same, and so is who has each block
  abbrev IsSameWorld : Type 0
  IsSameWorld = (w2.memory ≡ w.memory) × (w2.hand ≡ w.hand)

  both : (u : World (Node K V)) → w2 ≡ u → u.memory ≡ w.memory → u.hand ≡ w.hand → IsSameWorld
  both u e memory hand = (subst (λ (x : World (Node K V)). x.memory ≡ w.memory) (sym e) memory, subst (λ (x : World (Node K V)). x.hand ≡ w.hand) (sym e) hand)

  begun_same : (called : SlotCall) → Begins deferred_word size i (request_of slot called) w w2 → IsSameWorld
  begun_same (call.Register enters) h = both _ h refl refl
  begun_same call.Enter h = both _ h.1 refl refl
  begun_same call.Leave h = both _ h.1 refl refl
  begun_same call.LeaveOwned h = both _ h.1 refl refl
  begun_same call.Refresh h = both _ h.1 refl refl
  begun_same call.Flush h = both _ h.1 refl refl
  begun_same call.Unregister h = both _ h.1 refl refl

  same_stays : IsSameWorld → (b : ℕ) → StaysBlock w w2 b
  same_stays is b = record {
    value = ap (λ (n : Mem (Node K V)). value_at n b) is.0;
    linked = λ value there linked. subst (λ (h : ℕ → Hand). WasLinked (h b)) (sym is.1) linked;
  }

  pub begun_stays : (called : SlotCall) → Begins deferred_word size i (request_of slot called) w w2 → (b : ℕ) → StaysBlock w w2 b
  begun_stays called h = same_stays (begun_same called h)

module _ (K V : Type 0) (same : K → K → Bool) (hash : ℕ → K → ℕ) where
  pub rows_begin_shown : RowsBeginShown K V same hash
  rows_begin_shown name m known s old new at shown called i leads =
      let to = leads.2 in
      all_stay same name m known s shown to.0 to.2 to.3 m known (record { place = refl; born = refl; maps = refl; tables = refl; stored = refl }) refl refl
      (begun_stays old.batch_size (slot_of i) i s.world to.0 called to.1.1) (scene_then same hash (Begin i (request_of (slot_of i) called)) s old new to) shown.calls
