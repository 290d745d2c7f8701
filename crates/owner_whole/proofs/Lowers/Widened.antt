-- What a call needs to know for its numbers it knows by all that can be looked at, too, if it knows it by what its section sees.
use Rattle.std.specs.Prelude.{◌≡◌, ℕ, suc, ◌<◌, Bool, true, false}
use Rattle.std.proofs.Common.{inl, inr, arith}
use Rattle.seize_words.specs.OneMemory.Mem.{Mem}
use Rattle.seize_words.specs.declared.at.At.{At}
use Rattle.seize_words.specs.declared.at.At.TheVariants.{Root, Word}
use Rattle.map_tables.specs.Trials.{trial_at}
use Rattle.map_tables.specs.declared.node.Node.{Node}
use Rattle.map_tables.specs.declared.probe.Probe.{Probe}
use Rattle.map_tables.specs.declared.setting.Setting.{Setting}
use Rattle.map_tables.specs.declared.table.Table.{Table}
use Rattle.map_tables.specs.declared.table_words.TheConstants.{NEXT}
use Rattle.map_tables.specs.declared.trial.Trial.{Trial}
use Rattle.map_measures.specs.Given.ResizeDeclared.copier.Copier.{Copier}
use Rattle.map_measures.specs.Given.ResizeDeclared.copier.Copying.{Copying}
use Rattle.map_measures.specs.Given.ResizeDeclared.copier.Copying.TheVariants as copies
use Rattle.map_measures.specs.Given.ResizeDeclared.dispose.Dispose.{Dispose}
use Rattle.map_measures.specs.Given.ResizeDeclared.dispose.Disposing.{Disposing}
use Rattle.map_measures.specs.Given.ResizeDeclared.dispose.Disposing.TheVariants as disposes
use Rattle.map_measures.specs.Given.ResizeDeclared.lookup.Looking.{Looking}
use Rattle.map_measures.specs.Given.ResizeDeclared.lookup.Looking.TheVariants as looks
use Rattle.map_measures.specs.Given.ResizeDeclared.new_table.NewTable.{NewTable}
use Rattle.map_measures.specs.Given.ResizeDeclared.new_table.Making.{Making}
use Rattle.map_measures.specs.Given.ResizeDeclared.new_table.Making.TheVariants as makes
use Rattle.papaya_raw.specs.declared.machines.asking.Asking.{Asking}
use Rattle.papaya_raw.specs.declared.machines.asking.Asking.TheVariants as asking
use Rattle.papaya_raw.specs.declared.machines.call.KeyCall.{KeyCall}
use Rattle.papaya_raw.specs.declared.machines.call.Calling.{Calling}
use Rattle.papaya_raw.specs.declared.machines.call.Calling.TheVariants as at
use Rattle.papaya_raw.specs.Given.ReservesDeclared.reserve.Reserve.{Reserve}
use Rattle.papaya_raw.specs.Given.ReservesDeclared.reserve.Reserving.{Reserving}
use Rattle.papaya_raw.specs.Given.ReservesDeclared.reserve.Reserving.TheVariants as reserves
use Rattle.map_tables.specs.Chunks.{is_incremental}
use Rattle.map_measures.specs.Given.RuleChart.{Chart}
use Rattle.map_measures.specs.Given.RuleMaps.{IsTable, IsTrial}
use Rattle.map_measures.specs.Given.RuleWords.{Blocks}
use Rattle.owner_facts.specs.Given.CallersSights.{Visible, seen_by, IsVisibility}
use Rattle.map_measures.proofs.Falls.Reserves.Stands.{WholeStands, ReservingStands, ReserveStands}
use Rattle.map_measures.proofs.Falls.Stands.{IsPlaceOf, MakingStands, NewTableStands, LookingStands, DisposingStands, DisposeStands, AtPlace, HasTarget, AtTry, AtOld, CopyingStands, CopyingStandsBlocking, IsTrying, AskingStands, CallingStands, CallStands}

module _ {K V : Type 0} (setting : Setting) (m : Mem (Node K V)) (c : Chart K) (blocks : Blocks) (sight : Visible) (is_sight : IsVisibility c blocks sight) where
  abbrev pub seen : Blocks
  seen = seen_by blocks sight

  pub table_known : (t : ℕ) → t < c.past → seen.table_known t ≡ true → blocks.table_known t ≡ true
  table_known t made known = is_sight.tables t made known

  pub table : (it : Table) (t : ℕ) → IsTable c seen it t → IsTable c blocks it t
  table it t h = record { made = h.made; known = table_known t h.made h.known; is = h.is }

  pub trial : (it : Trial) (code t j : ℕ) → IsTrial c seen it code t j → IsTrial c blocks it code t j
  trial it code t j h = record { table = table it.table t h.table; place = h.place; try = h.try; most = h.most }

  -- the making of a table
  place_of : (link : At) (turn : ℕ) → IsPlaceOf setting m c seen link turn → IsPlaceOf setting m c blocks link turn
  place_of link turn (inl h) = inl h
  place_of link turn (inr (t, is, turn_is, made, known)) = inr (t, is, turn_is, made, table_known t made known)

  making : (link : At) (turn : ℕ) (x : Making) → MakingStands setting m c seen link turn x → MakingStands setting m c blocks link turn x
  making link turn (makes.Sums before reason sum) f = tt
  making link turn (makes.Makes it) f = tt
  making link turn (makes.Promotes it) f = f
  making link turn (makes.Links it) f = f
  making link turn (makes.Drops it found) (turn_is, u, made, known, found_is, behind) = (turn_is, u, made, table_known u made known, found_is, behind)
  making link turn (makes.Over it) (u, entered, behind) = (u, table it u entered, behind)
  making link turn (makes.Refused fault) f = tt

  pub new_table : (link : At) (turn : ℕ) (n : NewTable) → NewTableStands setting m c seen link turn n → NewTableStands setting m c blocks link turn n
  new_table link turn n h = record { link_is = h.link_is; place = place_of link turn h.place; point = making link turn n.stands h.point }

  -- a lookup
  looking : (code : ℕ) (x : Looking) → LookingStands setting m c seen code x → LookingStands setting m c blocks code x
  looking code looks.Roots f = tt
  looking code (looks.Probes it) (t, j, tries) = (t, j, trial it code t j tries)
  looking code (looks.Nexts it) (t, entered) = (t, table it t entered)
  looking code (looks.Over found) f = tt

  -- a disposal
  disposing : (t : ℕ) (x : Disposing) → t < c.past → DisposingStands setting m c seen t x → DisposingStands setting m c blocks t x
  disposing t (disposes.Walks link) made (u, l, known, is) = (u, l, table_known u (omega (arith, l, made)) known, is)
  disposing t disposes.Reads made f = tt
  disposing t (disposes.Settles settle) made f = tt
  disposing t (disposes.Defers defer) made f = tt
  disposing t disposes.Over made f = tt

  pub dispose : (d : Dispose) → DisposeStands setting m c seen d → DisposeStands setting m c blocks d
  dispose d (t, entered, point) = (t, table d.table t entered, disposing t d.stands entered.made point)

  -- a copier
  at_place : (p : Copier) → AtPlace setting m c seen p → AtPlace setting m c blocks p
  at_place p (t, entered, inside) = (t, table p.source t entered, inside)

  target : (p : Copier) → HasTarget setting m c seen p → HasTarget setting m c blocks p
  target p (t, entered) = (t, table p.target t entered)

  at_try : (code : ℕ) (it : Table) (probe : Probe) → AtTry setting m c seen code it probe → AtTry setting m c blocks code it probe
  at_try code it probe (t, j, tries) = (t, j, trial (trial_at it probe) code t j tries)

  pub at_old : (p : Copier) (link : ℕ) → AtOld setting m c seen p link → AtOld setting m c blocks p link
  at_old p link (s, t, l, entered, known, is) = (s, t, l, table p.target t entered, table_known s (let made = entered.made in omega (arith, l, made)) known, is)

  copying : (p : Copier) (x : Copying) → CopyingStands setting m c seen p x → CopyingStands setting m c blocks p x
  copying p copies.Begins f = tt
  copying p copies.Follows f = tt
  copying p copies.Asks f = f
  copying p copies.Sees f = tt
  copying p copies.Claims f = tt
  copying p copies.Marks f = at_place p f
  copying p (copies.Probes word code it probe) f = at_try code it probe f
  copying p (copies.Puts word code it probe) f = at_try code it probe f
  copying p (copies.Covers word) f = at_place p f
  copying p (copies.Passes word code it) (t, entered) = (t, table it t entered)
  copying p (copies.Grows word code n) (t, made, known, f) = (t, made, table_known t made known, new_table (Word (blocks.table t) NEXT) (suc t) n f)
  copying p copies.Aborts f = absurd f
  copying p copies.Replaces f = absurd f
  copying p (copies.Remakes n) f = absurd f
  copying p copies.Counts f = tt
  copying p (copies.Tallies word fault) f = tt
  copying p (copies.Unmarks word fault) f = at_place p f
  copying p (copies.Unclaims fault) f = target p f
  copying p copies.Promotes f = target p f
  copying p copies.Announces f = target p f
  copying p (copies.Succeeds link) f = at_old p link f
  copying p (copies.Retires settle rest) f = tt
  copying p copies.Over f = tt
  copying p (copies.Refused fault) f = tt

  copying_blocking : (p : Copier) (x : Copying) → CopyingStandsBlocking setting m c seen p x → CopyingStandsBlocking setting m c blocks p x
  copying_blocking p copies.Asks f = target p f
  copying_blocking p copies.Sees f = target p f
  copying_blocking p copies.Claims (f, u, entered) = (target p f, u, table p.source u entered)
  copying_blocking p copies.Marks (f, g) = (target p f, at_place p g)
  copying_blocking p (copies.Probes word code it probe) (f, g) = (target p f, at_try code it probe g)
  copying_blocking p (copies.Puts word code it probe) (f, g) = (target p f, at_try code it probe g)
  copying_blocking p copies.Counts f = target p f
  copying_blocking p copies.Aborts f = target p f
  copying_blocking p copies.Replaces f = target p f
  copying_blocking p (copies.Remakes n) (t, entered, f) = (t, table p.target t entered, new_table (Word (blocks.table t) NEXT) (suc t) n f)
  copying_blocking p copies.Promotes f = target p f
  copying_blocking p copies.Announces f = target p f
  copying_blocking p (copies.Succeeds link) f = at_old p link f
  copying_blocking p (copies.Retires settle rest) f = tt
  copying_blocking p copies.Over f = tt
  copying_blocking p (copies.Refused fault) f = tt
  copying_blocking p _ f = absurd f

  pub whole : (b : Bool) (p : Copier) → WholeStands setting m c seen b p → WholeStands setting m c blocks b p
  whole true p (bits, keeps, f) = (bits, keeps, copying p p.stands f)
  whole false p (blocking, f) = (blocking, copying_blocking p p.stands f)

  -- a reservation
  reserving : (b : Bool) (x : Reserving) → ReservingStands setting m c seen b x → ReservingStands setting m c blocks b x
  reserving b reserves.Reads f = tt
  reserving b (reserves.Makes n) f = new_table (Root setting.root) 0 n f
  reserving b (reserves.Copies copier) f = whole b copier f
  reserving b (reserves.Sums it sum) f = tt
  reserving b (reserves.Follows it need) (t, entered) = (t, table it t entered)
  reserving b (reserves.Grows it n) (t, entered, f) = (t, table it t entered, new_table (Word (blocks.table t) NEXT) (suc t) n f)
  reserving b reserves.Over f = tt
  reserving b (reserves.Refused fault) f = tt

  pub reserve : (p : Reserve) → ReserveStands setting m c seen p → ReserveStands setting m c blocks p
  reserve p f = reserving (is_incremental p.setting.mode) p.stands f

  -- a call on one key
  module _ {Q : Type 0} where
    trying : (p : KeyCall K V Q) → IsTrying setting m c seen p → IsTrying setting m c blocks p
    trying p (t, j, tries) = (t, j, trial p.trial p.hash t j tries)

    asks_on : (p : KeyCall K V Q) (x : Asking) → AskingStands setting m c seen p x → AskingStands setting m c blocks p x
    asks_on p (asking.Absent gap) f = tt
    asks_on p (asking.Present word) f = tt
    asks_on p (asking.Fills word) (f, value, inside) = (trying p f, value, inside)
    asks_on p (asking.GivesUp word) f = trying p f

    calling : (p : KeyCall K V Q) (x : Calling) → CallingStands setting m c seen p x → CallingStands setting m c blocks p x
    calling p at.Makes f = tt
    calling p (at.Looks lookup) f = looking lookup.hash lookup.stands f
    calling p at.Roots f = tt
    calling p at.Probes f = trying p f
    calling p (at.Tries word new) f = trying p f
    calling p at.Nexts (t, entered) = (t, table p.trial.table t entered)
    calling p (at.Firsts n) f = new_table (Root setting.root) 0 n f
    calling p (at.Allocs n) (t, entered, f) = (t, table p.trial.table t entered, new_table (Word (blocks.table t) NEXT) (suc t) n f)
    calling p (at.Helps copier goal) (bits, f) = (bits, copying copier copier.stands f)
    calling p (at.Copies copier) (blocking, f) = (blocking, copying_blocking copier copier.stands f)
    calling p (at.Counts removed) f = tt
    calling p (at.Disposes d answer) f = dispose d f
    calling p (at.Asks asks_at) f = asks_on p asks_at f
    calling p (at.Drops end) f = tt
    calling p (at.Over end) f = tt

    pub call : (p : KeyCall K V Q) → CallStands setting m c seen p → CallStands setting m c blocks p
    call p f = record { setting_is = f.setting_is; point = calling p p.stands f.point }
