-- Who has nothing under way has nothing under way after an operation, and who leans on nobody leans on nobody.
use Rattle.std.specs.Prelude.{◌≡◌, ◌==◌, ℕ, Bool, true, false, Option, Some, None, if◌then◌else◌}
use Rattle.std.proofs.Common.{sym, subst, ap}
use Rattle.seize_words.specs.OneMemory.Op.{Op, Out, Load, Store, Swap, Add, Or, Exchange, Make, Take, Rewrite, Room, Found, Stored, Exchanged, Made as OutMade, Taken, Roomed}
use Rattle.seize_words.specs.OneMemory.Word.{block_in}
use Rattle.seize_words.specs.declared.at.At.TheVariants.{Root, Used, Slot, Entry, Word}
use Rattle.seize_views.specs.Views.Notes.{noted_observed}
use Rattle.seize_views.specs.Views.Rows.{IsQuiescent}
use Rattle.seize_views.specs.Views.Stays.{observed_still}
use Rattle.seize_views.specs.Views.Watched.{open_at, LeansOn, Leans, IsOwn, IsOfRows}
use Rattle.seize_views.specs.Views.Told.{told, alone_with, joined_as, owes_in}
use Rattle.seize_views.specs.declared.view.Noted.{Noted}
use Rattle.seize_views.specs.declared.view.SlotView.{SlotView}
use Rattle.seize_views.specs.declared.view.SlotView.TheVariants.{Rests, Registers, Outside, Owes, Enters, Inside, Settles, Leaves, Left, Frees, Brings, Bears, Watches, Under, Joins, Defers, Busy}
use Rattle.seize_views.specs.declared.view.Has.{Has}
use Rattle.seize_views.specs.declared.view.Has.TheVariants.{Nothing, Made, Seen, Both, Cut, Walks}

owes_rests : (T : Type 0) (t word : ℕ) (b : Bool) → IsQuiescent {T = T} (if b then Outside t else Owes t (block_in word))
owes_rests T t word true = tt
owes_rests T t word false = tt

module _ {T : Type 0} where
  alone_rests : (has : Has T) → IsQuiescent (alone_with has)
  alone_rests Nothing = tt
  alone_rests (Made b x) = tt
  alone_rests (Seen b) = tt
  alone_rests (Both b x a) = tt
  alone_rests (Cut b) = tt
  alone_rests (Walks b next) = tt

  joined_rests : (block : Option (ℕ × T × ℕ)) → IsQuiescent (joined_as block)
  joined_rests None = tt
  joined_rests (Some made) = tt

  rests_as : (w v : SlotView T) → w ≡ v → IsQuiescent v → IsQuiescent w
  rests_as w v e rests = subst IsQuiescent (sym e) rests

module _ {T : Type 0} (defers : T → Option ℕ) where
  withdrawn : (t : ℕ) (op : Op T) (out : Out T) (w : SlotView T) → told defers (Outside t) op out w → IsQuiescent w
  withdrawn t (Swap (Root r) word) (Found old) w is = rests_as w (owes_in t old) is (owes_rests T t old (block_in old == 0))
  withdrawn t (Swap (Root r) word) Stored w is = absurd is
  withdrawn t (Swap (Root r) word) (Exchanged x) w is = absurd is
  withdrawn t (Swap (Root r) word) (OutMade x) w is = absurd is
  withdrawn t (Swap (Root r) word) (Taken x) w is = absurd is
  withdrawn t (Swap (Root r) word) (Roomed x) w is = absurd is
  withdrawn t (Swap (Used r) word) out w is = absurd is
  withdrawn t (Swap (Slot a c) word) out w is = absurd is
  withdrawn t (Swap (Entry a c) word) out w is = absurd is
  withdrawn t (Swap (Word a c) word) out w is = absurd is
  withdrawn t (Load at) out w is = absurd is
  withdrawn t (Store at word) out w is = absurd is
  withdrawn t (Add at word) out w is = absurd is
  withdrawn t (Or at word) out w is = absurd is
  withdrawn t (Exchange at old word) out w is = absurd is
  withdrawn t (Make x words) out w is = absurd is
  withdrawn t (Take c) out w is = absurd is
  withdrawn t (Rewrite c x) out w is = absurd is
  withdrawn t (Room c) out w is = absurd is

  watched : (t b : ℕ) (op : Op T) (out : Out T) (w : SlotView T) → told defers (Watches t b) op out w → IsQuiescent w
  watched t b (Load (Root r)) (Found word) w is = rests_as w (Watches t (block_in word)) is tt
  watched t b (Load (Root r)) Stored w is = absurd is
  watched t b (Load (Root r)) (Exchanged x) w is = absurd is
  watched t b (Load (Root r)) (OutMade x) w is = absurd is
  watched t b (Load (Root r)) (Taken x) w is = absurd is
  watched t b (Load (Root r)) (Roomed x) w is = absurd is
  watched t b (Load (Used r)) out w is = absurd is
  watched t b (Load (Slot a c)) out w is = absurd is
  watched t b (Load (Entry a c)) out w is = absurd is
  watched t b (Load (Word a c)) out w is = absurd is
  watched t b (Swap at word) out w is = absurd is
  watched t b (Store at word) out w is = absurd is
  watched t b (Add at word) out w is = absurd is
  watched t b (Or at word) out w is = absurd is
  watched t b (Exchange at old word) out w is = absurd is
  watched t b (Make x words) out w is = absurd is
  watched t b (Take c) out w is = absurd is
  watched t b (Rewrite c x) out w is = absurd is
  watched t b (Room c) out w is = absurd is

  observed_rests : (v : SlotView T) (op : Op T) (out : Out T) (w : SlotView T) → told defers v op out w → IsQuiescent v → IsQuiescent w
  observed_rests Rests op out w is r = rests_as w (alone_with is.0) is.2 (alone_rests is.0)
  observed_rests (Outside t) op out w is r = withdrawn t op out w is
  observed_rests (Owes t b) op out w is r = absurd is
  observed_rests (Inside t has) op out w is r = rests_as w (Inside t is.0) is.2 tt
  observed_rests (Brings b x) op out w is r = rests_as w (alone_with is.0) is.2 (alone_rests is.0)
  observed_rests (Bears b) op out w is r = absurd is
  observed_rests (Joins block) op out w is r = rests_as w (joined_as is.0) is.2 (joined_rests is.0)
  observed_rests (Watches t b) op out w is r = watched t b op out w is
  observed_rests (Under n t b) op out w is r = absurd r
  observed_rests (Registers c) op out w is r = absurd r
  observed_rests (Enters t) op out w is r = absurd r
  observed_rests (Settles c why seen left) op out w is r = absurd r
  observed_rests (Leaves t size way) op out w is r = absurd r
  observed_rests (Left t size way) op out w is r = absurd r
  observed_rests (Frees t) op out w is r = absurd r
  observed_rests (Defers t c) op out w is r = absurd r
  observed_rests (Busy t) op out w is r = absurd r

  pub resting_stay : (v : Noted T) (op : Op T) (out : Out T) (w : Noted T) → noted_observed defers v op out w → IsQuiescent v.knows → IsQuiescent w.knows
  resting_stay v op out w is rests = observed_rests v.knows op out w.knows is.0 rests

-- who leans on a seat
module _ {T : Type 0} where
  leans_under : (x : SlotView T) (n : ℕ) → LeansOn x n → (t : ℕ) × (b : ℕ) × (x ≡ Under n t b)
  leans_under (Under m t b) n is = (t, b, ap (λ (k : ℕ). Under k t b) is)
  leans_under Rests n is = absurd is
  leans_under (Registers c) n is = absurd is
  leans_under (Outside t) n is = absurd is
  leans_under (Owes t b) n is = absurd is
  leans_under (Enters t) n is = absurd is
  leans_under (Inside t has) n is = absurd is
  leans_under (Settles c why seen left) n is = absurd is
  leans_under (Leaves t size way) n is = absurd is
  leans_under (Left t size way) n is = absurd is
  leans_under (Frees t) n is = absurd is
  leans_under (Brings b x) n is = absurd is
  leans_under (Bears b) n is = absurd is
  leans_under (Watches t b) n is = absurd is
  leans_under (Joins block) n is = absurd is
  leans_under (Defers t c) n is = absurd is
  leans_under (Busy t) n is = absurd is

  pub own_leans : (x : SlotView T) (n : ℕ) → IsOwn x → LeansOn x n → ⊥
  own_leans x n own leans = let e = leans_under x n leans in subst IsOwn e.2 own

  rests_leans : (x : SlotView T) (n : ℕ) → IsQuiescent x → LeansOn x n → ⊥
  rests_leans x n rests leans = let e = leans_under x n leans in subst IsQuiescent e.2 rests

  pub rows_lean : (x : SlotView T) (n : ℕ) → IsOfRows x → LeansOn x n → ⊥
  rows_lean x n rows leans = let e = leans_under x n leans in subst IsOfRows e.2 rows

  pub open_leans : (x : SlotView T) (t n : ℕ) → open_at x ≡ Some t → LeansOn x n → ⊥
  open_leans x t n is_open leans = let e = leans_under x n leans in let none = ap open_at e.2 in cc (none, is_open)

  pub upright : (v : Noted T) (n : ℕ) → IsQuiescent v.knows → Leans v n → ⊥
  upright v n rests leans = rests_leans v.knows n rests leans

module _ {T : Type 0} (defers : T → Option ℕ) where
  leans_still : (m t b : ℕ) (op : Op T) (out : Out T) (w : SlotView T) → told defers (Under m t b) op out w → (n : ℕ) → LeansOn w n → m ≡ n
  leans_still m t b (Load (Root r)) (Found word) w is n leans = subst (λ (x : SlotView T). LeansOn x n) is leans
  leans_still m t b (Load (Root r)) Stored w is n leans = absurd is
  leans_still m t b (Load (Root r)) (Exchanged x) w is n leans = absurd is
  leans_still m t b (Load (Root r)) (OutMade x) w is n leans = absurd is
  leans_still m t b (Load (Root r)) (Taken x) w is n leans = absurd is
  leans_still m t b (Load (Root r)) (Roomed x) w is n leans = absurd is
  leans_still m t b (Load (Used r)) out w is n leans = absurd is
  leans_still m t b (Load (Slot a c)) out w is n leans = absurd is
  leans_still m t b (Load (Entry a c)) out w is n leans = absurd is
  leans_still m t b (Load (Word a c)) out w is n leans = absurd is
  leans_still m t b (Swap at word) out w is n leans = absurd is
  leans_still m t b (Store at word) out w is n leans = absurd is
  leans_still m t b (Add at word) out w is n leans = absurd is
  leans_still m t b (Or (Root r) bits) (Found word) w is n leans = subst (λ (x : SlotView T). LeansOn x n) is leans
  leans_still m t b (Or (Root r) bits) Stored w is n leans = absurd is
  leans_still m t b (Or (Root r) bits) (Exchanged x) w is n leans = absurd is
  leans_still m t b (Or (Root r) bits) (OutMade x) w is n leans = absurd is
  leans_still m t b (Or (Root r) bits) (Taken x) w is n leans = absurd is
  leans_still m t b (Or (Root r) bits) (Roomed x) w is n leans = absurd is
  leans_still m t b (Or (Used r) bits) out w is n leans = absurd is
  leans_still m t b (Or (Slot a c) bits) out w is n leans = absurd is
  leans_still m t b (Or (Entry a c) bits) out w is n leans = absurd is
  leans_still m t b (Or (Word a c) bits) out w is n leans = absurd is
  leans_still m t b (Exchange at old word) out w is n leans = absurd is
  leans_still m t b (Make x words) out w is n leans = absurd is
  leans_still m t b (Take c) out w is n leans = absurd is
  leans_still m t b (Rewrite c x) out w is n leans = absurd is
  leans_still m t b (Room c) out w is n leans = absurd is

  observed_leans : (v : SlotView T) (op : Op T) (out : Out T) (w : SlotView T) → told defers v op out w → (n : ℕ) → LeansOn w n → LeansOn v n
  observed_leans (Under m t b) op out w is n leans = leans_still m t b op out w is n leans
  observed_leans (Watches t b) op out w is n leans = absurd (rests_leans w n (observed_rests defers (Watches t b) op out w is tt) leans)
  observed_leans Rests op out w is n leans = absurd (own_leans w n (observed_still defers Rests op out w tt is).own leans)
  observed_leans (Registers c) op out w is n leans = absurd (own_leans w n (observed_still defers (Registers c) op out w tt is).own leans)
  observed_leans (Outside t) op out w is n leans = absurd (own_leans w n (observed_still defers (Outside t) op out w tt is).own leans)
  observed_leans (Owes t b) op out w is n leans = absurd (own_leans w n (observed_still defers (Owes t b) op out w tt is).own leans)
  observed_leans (Enters t) op out w is n leans = absurd (own_leans w n (observed_still defers (Enters t) op out w tt is).own leans)
  observed_leans (Inside t has) op out w is n leans = absurd (own_leans w n (observed_still defers (Inside t has) op out w tt is).own leans)
  observed_leans (Settles c why seen left) op out w is n leans = absurd (own_leans w n (observed_still defers (Settles c why seen left) op out w tt is).own leans)
  observed_leans (Leaves t size way) op out w is n leans = absurd (own_leans w n (observed_still defers (Leaves t size way) op out w tt is).own leans)
  observed_leans (Left t size way) op out w is n leans = absurd (own_leans w n (observed_still defers (Left t size way) op out w tt is).own leans)
  observed_leans (Frees t) op out w is n leans = absurd (own_leans w n (observed_still defers (Frees t) op out w tt is).own leans)
  observed_leans (Brings b x) op out w is n leans = absurd (own_leans w n (observed_still defers (Brings b x) op out w tt is).own leans)
  observed_leans (Bears b) op out w is n leans = absurd (own_leans w n (observed_still defers (Bears b) op out w tt is).own leans)
  observed_leans (Joins block) op out w is n leans = absurd (own_leans w n (observed_still defers (Joins block) op out w tt is).own leans)
  observed_leans (Defers t c) op out w is n leans = absurd (own_leans w n (observed_still defers (Defers t c) op out w tt is).own leans)
  observed_leans (Busy t) op out w is n leans = absurd (own_leans w n (observed_still defers (Busy t) op out w tt is).own leans)

  pub leaning_stay : (v : Noted T) (op : Op T) (out : Out T) (w : Noted T) → noted_observed defers v op out w → (n : ℕ) → Leans w n → Leans v n
  leaning_stay v op out w is n leans = observed_leans v.knows op out w.knows is.0 n leans
