-- What a row may rely on while no other row is under way.
use Rattle.std.specs.Prelude.{Option}
use Rattle.std.proofs.Common.{◌≡◌, ℕ, ◌+◌, ◌-◌, ◌<◌, ◌^◌, Bool, true, false, length, inl, inr, refl, arith, subst, sym, ap, ◌∙◌}
use Rattle.std.proofs.lemmas.Bool.{cases_eq}
use Rattle.seize.specs.declared.states.TheConstants.{LAST_SLOT}
use Rattle.seize.specs.declared.rows.settle.Settle.{Settle}
use Rattle.seize.specs.declared.rows.settle.Settling.{Settling}
use Rattle.seize.specs.declared.rows.settle.Settling.TheVariants as at
use Rattle.seize.specs.declared.rows.leave.Leave.{Leave}
use Rattle.seize.specs.declared.rows.leave.Leaving.{Leaving}
use Rattle.seize.specs.declared.rows.leave.Leaving.TheVariants as leaving
use Rattle.seize.specs.Law.{is_open}
use Rattle.seize.specs.World.{World, Row, Rests, Registers, Enters, Settles, Leaves, Defers, Frees, Use, Vacant, Outside, Inside, Changing}
use Rattle.seize_rule.proofs.Given.SeizeMovesState.Ghost.{Head, emptied, is_never}
use Rattle.seize_rule.proofs.Given.SeizeMemoryWords.View.{view}
use Rattle.seize_rule.proofs.Rows.Known.{works_on, Idles, Settles_on, OverIs, FitsLeave, FitsRow}
use Rattle.seize_rule.proofs.Rows.Teams.{shares, is_shared, UseFits}
use Rattle.seize_rule.proofs.Rows.Short.{is_trying, tries_on, leave_tries, calm}
use Rattle.seize_rule.proofs.World.Rested.{Lone}
use Rattle.seize_rule.proofs.Rows.Told.{HasSettled, IsSettled}
use Rattle.seize_rule.proofs.Points.Told.{Part, Plain, part, part_at}
use Rattle.seize_model.proofs.Sets.Follows.Work.{Alone, Setting}
use Rattle.seize_model.proofs.Sets.Follows.Begins.{AtRest, at_rest}

-- no try is under way where it reclaims, retires or counts
pub plain_calm : (c : Settle) → part c ≡ Plain → is_trying c.stands ≡ false
plain_calm c e = by c.stands e
  where
    by : (p : Settling) → part_at c.flushing p ≡ Plain → is_trying p ≡ false
    by (at.Scans slot block marks) k = absurd (cc k)
    by (at.Marks slot block marks) k = absurd (cc k)
    by (at.Marked slot block marks) k = absurd (cc k)
    by (at.Closes marks) k = absurd (cc k)
    by at.Sees k = refl
    by at.Holds k = refl
    by at.Pops k = refl
    by (at.Firsts block) k = refl
    by (at.Batches block) k = refl
    by (at.Ends block) k = refl
    by (at.Appends block) k = refl
    by (at.Counts block) k = refl
    by (at.Reads block left pushed) k = refl
    by (at.Links block left pushed slot head) k = refl
    by (at.Pushes block left pushed slot head) k = refl
    by (at.Pushed block left pushed) k = refl
    by (at.Sums pushed) k = refl
    by at.Nexts k = refl
    by (at.Drains next word) k = refl
    by (at.Joins next more) k = refl
    by (at.Tails next) k = refl
    by (at.Takes next) k = refl
    by at.Puts k = refl
    by at.Lists k = refl
    by (at.Owns next) k = refl
    by (at.Downs next batch) k = refl
    by at.Gives k = refl
    by at.Over k = refl

-- a slot that rows share was taken
shared_taken : (u : Use) (h : Head) (k : ℕ) (now : Bool) → is_shared u ≡ true → UseFits u (emptied h) k now → is_never h ≡ false
shared_taken Vacant h k now s f = absurd (cc s)
shared_taken (Outside j) h k now s f = let p = f.0 in grind (arith, p)
shared_taken (Inside j) h k now s f = let p = f.0 in grind (arith, p)
shared_taken Changing h k now s f = absurd (cc s)

module _ {T : Type 0} (defers : T → Option ℕ) (n size : ℕ) (last : n ≡ LAST_SLOT + 1) (word : size < 2 ^ 64) (i : ℕ) (w : World T) (lone : Lone defers n size i w) where
  pub fits_row : (r : Row) → w.row i ≡ r → FitsRow n i (view defers w.memory) lone.good.state lone.good.extra (length w.memory.slots) r
  fits_row r e = subst (λ (q : Row). FitsRow n i (view defers w.memory) lone.good.state lone.good.extra (length w.memory.slots) q) e (lone.good.rows i)

  idles : (j : ℕ) → (j ≡ i → ⊥) → Idles j lone.good.state lone.good.extra
  idles j ne =
      subst (λ (q : Row). FitsRow n j (view defers w.memory) lone.good.state lone.good.extra (length w.memory.slots) q) (lone.others j ne) (lone.good.rows j)

  pub alone : Alone i lone.good.state
  alone = record { no_loose = λ j ne. (idles j ne).empty.loose; no_closing = λ j ne. (idles j ne).empty.closing }

  none_tries : (s : ℕ) → tries_on (w.row i) s ≡ false → (j : ℕ) → tries_on (w.row j) s ≡ false
  none_tries s e j = elim (cases_eq j i) as (λ _. tries_on (w.row j) s ≡ false) [
    | inl same ↦ ap (λ (k : ℕ). tries_on (w.row k) s) same ∙ e
    | inr other ↦ ap (λ (q : Row). tries_on q s) (lone.others j other)
  ]

  pub setting : (s : ℕ) (p : Part) → s < n → (p ≡ Plain → tries_on (w.row i) s ≡ false) → Setting size n i s p lone.good.state
  setting s p lt calm_at = record {
    small = small;
    size_is_word = word;
    slot_lt = lt;
    inv = lone.good.inv;
    alone = alone;
    counted = lone.good.pending;
    short = λ e. (lone.good.short s lt (none_tries s (calm_at e))).below (2 ^ 64 - 1) word (omega arith) (omega (arith, word)) (λ u taken. below u taken);
  }
    where
      small : n < 2 ^ 64
      small = omega (arith, last)

      below : (u : ℕ) → is_never (lone.good.state.head u) ≡ false → u < 2 ^ 64 - 1
      below u taken = let k : u < n = grind (arith, lone.good.inv.slots.outside u) in omega (arith, k, last)

  -- the slot that it settles for
  pub settles_setting : (c : Settle) → w.row i ≡ Settles c → Setting size n i c.slot (part c) lone.good.state
  settles_setting c e = setting c.slot (part c) lt (λ k. ap (λ (q : Row). tries_on q c.slot) e ∙ calm c c.slot (plain_calm c k))
    where
      on : works_on (w.row i) ≡ c.slot + 1
      on = ap works_on e

      shared : is_shared (w.uses c.slot) ≡ true
      shared = sym (lone.good.used.kinds i c.slot on) ∙ ap shares e

      lt : c.slot < n
      lt =
          let k = shared_taken (w.uses c.slot) (lone.good.state.head c.slot) (length (lone.good.used.team c.slot)) (is_open c.slot lone.good.state.log) shared (lone.good.used.fits c.slot) in
          grind (arith, k, lone.good.inv.slots.outside c.slot)

  pub leaves_settles : (c : Leave) (settle : Settle) → w.row i ≡ Leaves c → c.stands ≡ leaving.Settles settle
      → Settles_on n i (view defers w.memory) lone.good.state lone.good.extra c.slot c.becomes c.frees settle
  leaves_settles c settle e at =
      subst (λ (p : Leaving). FitsLeave n i (view defers w.memory) lone.good.state lone.good.extra c.slot c.becomes c.frees p) at (fits_row (Leaves c) e)

  pub leaves_setting : (c : Leave) (settle : Settle) → w.row i ≡ Leaves c → c.stands ≡ leaving.Settles settle → Setting size n i settle.slot (part settle) lone.good.state
  leaves_setting c settle e at =
      let r = leaves_settles c settle e at in
      setting settle.slot (part settle) (subst (λ (k : ℕ). k < n) (sym r.slot_is) r.slot_lt)
      (λ k. ap (λ (q : Row). tries_on q settle.slot) e ∙ ap (λ (p : Leaving). leave_tries p settle.slot) at ∙ calm settle settle.slot (plain_calm settle k))

  -- where nothing is left to be settled, the row has nothing in its hands
  pub settled_rests : HasSettled (w.row i) → AtRest i lone.good.state
  settled_rests h = at_rest i lone.good.state lone.good.extra (by (w.row i) h (lone.good.rows i)).empty
    where
      over : (t : Bool) (s becomes : ℕ) → OverIs t n i lone.good.state lone.good.extra s becomes → Idles i lone.good.state lone.good.extra
      over true s becomes r = r.0
      over false s becomes r = r.2.idles

      by_stand : (s becomes : ℕ) (frees : Bool) (p : Leaving) → IsSettled p → FitsLeave n i (view defers w.memory) lone.good.state lone.good.extra s becomes frees p
          → Idles i lone.good.state lone.good.extra
      by_stand s becomes frees leaving.Swaps k r = absurd k
      by_stand s becomes frees (leaving.Settles settle) k r = absurd k
      by_stand s becomes frees leaving.Frees k r = r.on.idles
      by_stand s becomes frees leaving.Over k r = over frees s becomes r

      by : (r : Row) → HasSettled r → FitsRow n i (view defers w.memory) lone.good.state lone.good.extra (length w.memory.slots) r → Idles i lone.good.state lone.good.extra
      by Rests k r = r
      by (Leaves c) k r = by_stand c.slot c.becomes c.frees c.stands k r
      by (Registers c) k r = absurd k
      by (Enters c) k r = absurd k
      by (Settles c) k r = absurd k
      by (Defers s c) k r = absurd k
      by (Frees c) k r = absurd k

  -- and where it tries nothing
  pub settled_setting : (s : ℕ) → s < n → HasSettled (w.row i) → Setting size n i s Plain lone.good.state
  settled_setting s lt h = setting s Plain lt (λ k. by (w.row i) h)
    where
      by_stand : (p : Leaving) → IsSettled p → leave_tries p s ≡ false
      by_stand leaving.Swaps k = refl
      by_stand (leaving.Settles settle) k = absurd k
      by_stand leaving.Frees k = refl
      by_stand leaving.Over k = refl

      by : (r : Row) → HasSettled r → tries_on r s ≡ false
      by Rests k = refl
      by (Leaves c) k = by_stand c.stands k
      by (Registers c) k = refl
      by (Enters c) k = refl
      by (Settles c) k = absurd k
      by (Defers t c) k = refl
      by (Frees c) k = refl
