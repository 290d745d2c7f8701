-- A call that reclaims values begins, alone.
use Rattle.std.specs.Prelude.{Option, ◌^◌}
use Rattle.std.proofs.Common.{◌≡◌, ℕ, ◌*◌, ◌<◌, true, false, [], refl, sym}
use Rattle.std.proofs.lemmas.List.{append-nil}
use Rattle.seize.specs.Given.SeizeWordsMem.{Mem}
use Rattle.seize.specs.declared.states.TheConstants.{IDLE, ACTIVE}
use Rattle.seize.specs.Settle.{retiring, flushing}
use Rattle.seize.specs.Leave.{leaving}
use Rattle.seize.specs.World.{World, Settles, Leaves, Inside, Cutting, Handed, Changing, IsTaken, Request, Retire, Flush, Leave', LeaveOwned, Refresh, Begins, one_more, with_row, with_use, with_hand}
use Rattle.seize.specs.Sequence.{taken_in}
use Rattle.seize_model.specs.Alone.Alone.{History, IsHistory, IsMidway, MayGive, at_rest}
use Rattle.seize_model.proofs.Alone.Spared.Operations.{spares_same}

module _ {T : Type 0} (defers : T → Option ℕ) (batch_size roots : ℕ) (word : batch_size < 2 ^ 64) (m : Mem T) (h : History) (had : IsHistory defers batch_size roots m h) where
  begun : (request : Request) (v : World T) → MayGive request → Begins defers batch_size 0 request (at_rest defers m h) v → v.memory ≡ m → v.log ≡ h.log → IsMidway defers batch_size roots m h request (v.row 0) m []
  begun request v may b same log = record {
    size = word;
    may = may;
    history = had;
    begun = v;
    begins = b;
    now = v;
    steps = 0;
    runs = refl;
    row_now = refl;
    memory_now = same;
    back = [];
    taken = rw log (sym (append-nil (taken_in h.log)));
    values = refl;
    spares = spares_same m;
  }

  pub retire_begins : (s b : ℕ) → IsTaken (h.uses s) → h.hand b ≡ Cutting 0 → IsMidway defers batch_size roots m h (Retire s b) (Settles (retiring s batch_size (b * 2048))) m []
  retire_begins s b taken cutting =
      begun (Retire s b) (with_hand (with_use (with_row (at_rest defers m h) 0 (Settles (retiring s batch_size (b * 2048)))) s (one_more (h.uses s))) b Handed) tt (taken, (0, cutting), refl) refl refl

  pub flush_begins : (s : ℕ) → IsTaken (h.uses s) → IsMidway defers batch_size roots m h (Flush s) (Settles (flushing s batch_size)) m []
  flush_begins s taken = begun (Flush s) (with_use (with_row (at_rest defers m h) 0 (Settles (flushing s batch_size))) s (one_more (h.uses s))) tt (taken, refl) refl refl

  module _ (s : ℕ) (inside : h.uses s ≡ Inside 0) where
    pub leave_begins : IsMidway defers batch_size roots m h (Leave' s) (Leaves (leaving s batch_size IDLE false)) m []
    leave_begins = begun (Leave' s) (with_use (with_row (at_rest defers m h) 0 (Leaves (leaving s batch_size IDLE false))) s Changing) tt (inside, refl) refl refl

    pub leave_owned_begins : IsMidway defers batch_size roots m h (LeaveOwned s) (Leaves (leaving s batch_size IDLE true)) m []
    leave_owned_begins = begun (LeaveOwned s) (with_use (with_row (at_rest defers m h) 0 (Leaves (leaving s batch_size IDLE true))) s Changing) tt (inside, refl) refl refl

    pub refresh_begins : IsMidway defers batch_size roots m h (Refresh s) (Leaves (leaving s batch_size ACTIVE false)) m []
    refresh_begins = begun (Refresh s) (with_use (with_row (at_rest defers m h) 0 (Leaves (leaving s batch_size ACTIVE false))) s Changing) tt (inside, refl) refl refl
