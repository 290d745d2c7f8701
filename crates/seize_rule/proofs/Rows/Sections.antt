-- A row that runs within a section works on its slot.
use Rattle.std.proofs.Common.{◌≡◌, ℕ, ◌+◌, Bool, true, false, eqb, arith}
use Rattle.seize_moves.specs.Given.SeizeDeclared.rows.settle.Settle.{Settle}
use Rattle.seize_moves.specs.Given.SeizeDeclared.rows.settle.Settling.{Settling}
use Rattle.seize_moves.specs.Given.SeizeDeclared.rows.settle.Settling.TheVariants as at
use Rattle.seize_moves.specs.Given.SeizeDeclared.rows.leave.Leaving.{Leaving}
use Rattle.seize_moves.specs.Given.SeizeDeclared.rows.leave.Leaving.TheVariants as leaving
use Rattle.seize_moves.specs.Given.SeizeDeclared.rows.register.Registering.{Registering}
use Rattle.seize_moves.specs.Given.SeizeDeclared.rows.register.Registering.TheVariants as registering
use Rattle.seize_moves.specs.Given.SeizeDeclared.rows.defer.Deferring.{Deferring}
use Rattle.seize_moves.specs.Given.SeizeDeclared.rows.defer.Deferring.TheVariants as deferring
use Rattle.seize_moves.specs.Given.SeizeWordsDeclared.at.At.{At}
use Rattle.seize_moves.specs.Given.SeizeWorld.{Row, Rests, Registers, Enters, Settles, Leaves, Defers, Frees}
use Rattle.seize_moves.proofs.Moves.State.Ghost.{State}
use Rattle.seize_moves.proofs.Moves.State.Rule.{Inv}
use Rattle.seize_moves.proofs.Memory.Words.View.{View}
use Rattle.seize_moves.proofs.Memory.Words.Shows.{Extra}
use Rattle.seize_rule.proofs.Points.Known.{Outside, FitsAt, FirstsOf, bare}
use Rattle.seize_rule.proofs.Rows.Known.{registering_on, leaving_on, works_on, OverIs, FitsRegister, FitsLeave, FitsDefer, FitsRow}

-- a row that settles runs in no section
pub settle_outside : (n i : ℕ) (f : View) (m : State) (x : Extra) (c : Settle) (p : Settling) → FitsAt n i f m x c p → Outside i m
settle_outside n i f m x c at.Sees r = r.retiring.rest.common.outside
settle_outside n i f m x c at.Holds r = r.retiring.rest.common.outside
settle_outside n i f m x c at.Pops r = r.retiring.rest.common.outside
settle_outside n i f m x c (at.Firsts block) r = by (eqb block 0) r
  where
    by : (t : Bool) → FirstsOf t n i m x c block → Outside i m
    by true r = r.retiring.rest.common.outside
    by false r = r.putting.common.outside
settle_outside n i f m x c (at.Batches block) r = r.putting.common.outside
settle_outside n i f m x c (at.Ends block) r = r.batches.putting.common.outside
settle_outside n i f m x c (at.Appends block) r = r.ends.batches.putting.common.outside
settle_outside n i f m x c (at.Counts block) r = r.putting.common.outside
settle_outside n i f m x c (at.Scans slot block marks) r = r.tries.common.outside
settle_outside n i f m x c (at.Marks slot block marks) r = r.tries.common.outside
settle_outside n i f m x c (at.Marked slot block marks) r = r.tries.common.outside
settle_outside n i f m x c (at.Closes marks) r = r.tries.common.outside
settle_outside n i f m x c (at.Reads block left pushed) r = r.shuts.common.outside
settle_outside n i f m x c (at.Links block left pushed slot head) r = r.reads.shuts.common.outside
settle_outside n i f m x c (at.Pushes block left pushed slot head) r = r.links.reads.shuts.common.outside
settle_outside n i f m x c (at.Pushed block left pushed) r = r.shuts.common.outside
settle_outside n i f m x c (at.Sums pushed) r = r.shuts.common.outside
settle_outside n i f m x c at.Nexts r = r.rest.common.outside
settle_outside n i f m x c (at.Drains next word) r = r.backs.common.outside
settle_outside n i f m x c (at.Joins next more) r = r.drains.backs.common.outside
settle_outside n i f m x c (at.Tails next) r = r.backs.common.outside
settle_outside n i f m x c (at.Takes next) r = r.backs.common.outside
settle_outside n i f m x c at.Puts r = r.common.outside
settle_outside n i f m x c at.Lists r = r.rest.common.outside
settle_outside n i f m x c (at.Owns next) r = r.lists.rest.common.outside
settle_outside n i f m x c (at.Downs next batch) r = r.owns.lists.rest.common.outside
settle_outside n i f m x c at.Gives r = r.rest.common.outside
settle_outside n i f m x c at.Over r = r.rest.common.outside

no_section : (i s o : ℕ) (m : State) → Outside i m → m.section i ≡ s + 1 → o ≡ s + 1
no_section i s o m r e = let p = r.section in absurd (omega (arith, p, e))

module _ (n i k s : ℕ) (f : View) (m : State) (x : Extra) (inv : Inv n m) (within : m.section i ≡ s + 1) where
  register_within : (t : ℕ) (p : Registering) → FitsRegister n i m x k t p → registering_on t p ≡ s + 1
  register_within t registering.Begin r = no_section i s 0 m r.idles.outside within
  register_within t registering.Look r = no_section i s 0 m r.idles.outside within
  register_within t (registering.Widen bucket seen) r = no_section i s 0 m r.sees.looks.idles.outside within
  register_within t (registering.Take seen) r = no_section i s 0 m r.sees.looks.idles.outside within
  register_within t registering.Enter r = no_section i s (t + 1) m r.idles.outside within
  register_within t registering.Registered r = absurd r
  register_within t (registering.Refused fault) r = absurd r

  over_within : (t becomes : ℕ) (frees : Bool) → OverIs frees n i m x t becomes → leaving_on t frees leaving.Over ≡ s + 1
  over_within t becomes true r = no_section i s 0 m r.0.outside within
  over_within t becomes false r = no_section i s (t + 1) m r.2.idles.outside within

  leave_within : (t becomes : ℕ) (frees : Bool) (p : Leaving) → FitsLeave n i f m x t becomes frees p → leaving_on t frees p ≡ s + 1
  leave_within t becomes frees leaving.Swaps r = no_section i s (t + 1) m r.on.idles.outside within
  leave_within t becomes frees (leaving.Settles settle) r = no_section i s (t + 1) m (settle_outside n i f m x (bare settle) settle.stands r.settles) within
  leave_within t becomes frees leaving.Frees r = no_section i s (t + 1) m r.on.idles.outside within
  leave_within t becomes frees leaving.Over r = over_within t becomes frees r

  same_section : (t : ℕ) → m.section i ≡ t + 1 → t + 1 ≡ s + 1
  same_section t e = cc (e, within)

  defer_within : (t block : ℕ) (name : At) (p : Deferring) → FitsDefer n i f m x t block name p → t + 1 ≡ s + 1
  defer_within t block name deferring.Reads r = let w = inv.logged.on_way r.b i t r.t r.life in same_section t w.0
  defer_within t block name (deferring.Links head) r = let w = inv.logged.on_way r.b i t r.t r.life in same_section t w.0
  defer_within t block name (deferring.Pushes head) r = let w = inv.logged.on_way r.on.b i t r.on.t r.on.life in same_section t w.0
  defer_within t block name deferring.Over r = same_section t r.section

  -- a row that runs within a section works on its slot
  pub row_within : (row : Row) → FitsRow n i f m x k row → works_on row ≡ s + 1
  row_within Rests r = no_section i s 0 m r.outside within
  row_within (Registers c) r = register_within c.slot c.stands r
  row_within (Enters c) r = no_section i s (c.slot + 1) m r.idles.outside within
  row_within (Settles c) r = no_section i s (c.slot + 1) m (settle_outside n i f m x (bare c) c.stands r) within
  row_within (Leaves c) r = leave_within c.slot c.becomes c.frees c.stands r
  row_within (Defers t c) r = defer_within t c.block c.table_word c.stands r
  row_within (Frees c) r = no_section i s (c.slot + 1) m r.idles.outside within
