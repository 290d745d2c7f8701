-- The points of a scan: what it finds at a slot, and where it goes on.
use Rattle.std.specs.Prelude.{Option, if◌then◌else◌, nat_lt, ◌==◌}
use Rattle.std.proofs.Common.{◌≡◌, ℕ, ◌+◌, ◌<◌, ◌≤◌, Bool, true, false, List, [], ◌∷◌, ◌++◌, length, refl, arith, ap, sym, subst, ◌∙◌, eqb-true, ltb-true, ltb-false}
use Rattle.std.proofs.lemmas.Bool.{eqb-false}
use Rattle.std.proofs.lemmas.List.{append-nil}
use Rattle.seize_moves.specs.Given.SeizeWordsDeclared.at.At.TheVariants.{Slot}
use Rattle.seize_moves.specs.Given.SeizeWordsMem.{Mem, Took, value_at}
use Rattle.seize_moves.specs.Given.SeizeWordsPlan.{Steps, Ends}
use Rattle.seize_moves.proofs.Given.SeizeWordsOneOwner.Operations.{loaded}
use Rattle.seize_moves.specs.Given.SeizeDeclared.states.TheConstants.{HEAD, NEVER, ACTIVE, LAST_SLOT}
use Rattle.seize_moves.specs.Given.SeizeDeclared.rows.settle.Settle.{Settle}
use Rattle.seize_moves.specs.Given.SeizeDeclared.rows.settle.Settling.TheVariants as at
use Rattle.seize_moves.specs.Given.SeizeDeclared.rows.settle.Settled.{Settled}
use Rattle.seize_moves.specs.Given.SeizeDeclared.rows.settle.Settled.TheVariants.{Goes}
use Rattle.seize_moves.specs.Given.SeizeSettle.{standing, onward, behind, to, goes, scanned, scans}
use Rattle.seize_moves.proofs.Moves.State.Ghost.{State, Open, is_active}
use Rattle.seize_moves.proofs.Moves.State.Rule.{Inv}
use Rattle.seize_moves.proofs.Moves.State.Moves
use Rattle.seize_moves.proofs.Moves.Moves.Tries.{skipped_moves, given_up_moves, none_behind}
use Rattle.seize_rule.proofs.Points.Passed.{passed_rest, passed_rest_moves, passed_rest_written}
use Rattle.seize_moves.proofs.Memory.Words.Named.{link, word_found}
use Rattle.seize_moves.proofs.Memory.Words.Chains.{first_or, chain_behind}
use Rattle.seize_moves.proofs.Memory.Words.View.{View, view}
use Rattle.seize_moves.proofs.Memory.Words.Shows.{Extra, Shows}
use Rattle.seize_moves.proofs.Memory.Written.Marks.{skipped_written, given_up_written}
use Rattle.seize_rule.proofs.Points.Aside.{aside_same}
use Rattle.seize_rule.proofs.Points.Told.{Trying, part, Passes, Skips, GivesUp, Finds, onward_part}
use Rattle.seize_rule.proofs.Points.NothingLeft.{nothing_left}
use Rattle.seize_rule.proofs.Points.Stepped.{Stepped, unmoved, Went, went_loaded}
use Rattle.seize_rule.proofs.Points.Known.{TakenBelow, MayHold, Tries, Scans, Fits, bare}
use Rattle.seize_rule.proofs.Points.Onwards.{onward_fits, onward_slot}
use Rattle.seize_rule.proofs.Points.Retire.{open_stage, open_chain}
-- what a head's word says
use Rattle.seize_rule.proofs.Points.Try.{never_word, taken_word, inactive_word, active_word, below_more, tries_on, common_on, holding_on}
use Rattle.seize_moves.proofs.Memory.Words.Apart.{put_here as here}

module _ (n i : ℕ) (f : View) (m : State) (x : Extra) (c : Settle) (last : n ≡ LAST_SLOT + 1) where
  -- the slot behind, or the batch is closed
  pub behind_fits : (slot block marks : ℕ) (us vs ts : List ℕ) → Tries n i m x (bare c) (slot + 1) marks us vs ts → length us ≡ marks → block ≡ first_or 0 vs → slot < n
      → TakenBelow m.head (slot + 1) → Fits n i f m x (standing c (behind slot block marks))
  behind_fits slot block marks us vs ts r used is lt below = one (nat_lt slot LAST_SLOT) refl
    where
      one : (t : Bool) → nat_lt slot LAST_SLOT ≡ t → Fits n i f m x (standing c (if t then at.Scans (slot + 1) block marks else at.Closes marks))
      one true e = record { us = us; vs = vs; ts = ts; tries = r; used = used; block_is = is; lt = let l = ltb-true slot LAST_SLOT e in omega arith; below = below }
      one false e =
          let q : slot + 1 ≡ n = (let l = ltb-false slot LAST_SLOT e in omega arith) in
          record { us = us; vs = vs; ts = ts; tries = subst (λ (k : ℕ). Tries n i m x (bare c) k marks us vs ts) q r; used = used }

pub behind_part : (c : Settle) (slot block marks : ℕ) → part (standing c (behind slot block marks)) ≡ Trying
behind_part c slot block marks = one (nat_lt slot LAST_SLOT)
  where
    one : (t : Bool) → part (standing c (if t then at.Scans (slot + 1) block marks else at.Closes marks)) ≡ Trying
    one true = refl
    one false = refl

module _ (n i : ℕ) (f : View) (m : State) (x : Extra) (c : Settle) (inv : Inv n m) (v : Shows n f m x) (last : n ≡ LAST_SLOT + 1) (slot block marks : ℕ)
    (r : Scans n i m x (bare c) slot block marks) where
  abbrev batch : ℕ
  batch = m.open_batch c.slot

  open_is : m.stage batch ≡ Open c.slot
  open_is = open_stage n i f m x c inv v r.tries.common.slot_lt

  -- the slot was never taken, and so were none behind it
  closes_then : f.heads slot ≡ 0 → Stepped n i c Trying f m x f [] (standing c (at.Closes marks))
  closes_then z =
      let m2 = passed_rest n m batch in
      let never = never_word f.links (f.heads slot) (m.head slot) (v.entries.headed slot) z in
      let rest : (t : ℕ) → m.seen batch ≤ t → t < n → is_active (m.head t) ≡ false = (λ t l k. none_behind n m slot t inv never (rw (r.tries.batch.seen) at l)) in
      record {
        m2 = m2;
        x2 = x;
        moved = passed_rest_moves n i c.slot m batch inv open_is r.tries.batch.holder rest;
        told = Passes rest refl refl refl;
        written = passed_rest_written n i batch f m x v;
        pending = λ p. p;
        logged = refl;
        aside = aside_same m m2 refl refl;
        slot_is = refl;
        fits = record {
          us = r.us;
          vs = r.vs;
          ts = r.ts;
          tries = tries_on n i m m2 x c slot marks n marks r.us r.vs r.ts r.ts r.tries refl refl refl refl refl refl refl refl (here m.seen batch n) r.tries.batch.todo r.tries.marked
              (let l = r.lt in let k = r.tries.marks_le in omega arith) r.tries.active;
          used = r.used;
        };
      }

  -- it isn't active
  skips_then : (f.heads slot ≡ 0 → ⊥) → f.heads slot < 3 → Stepped n i c Trying f m x f [] (standing c (behind slot block marks))
  skips_then ne l =
      let m2 = Moves.skipped m batch slot in
      let quiet = inactive_word f.links (f.heads slot) (m.head slot) (v.entries.headed slot) l in
      let taken = taken_word f.links (f.heads slot) (m.head slot) (v.entries.headed slot) ne in
      record {
        m2 = m2;
        x2 = x;
        moved = skipped_moves n i c.slot m batch slot inv open_is r.tries.batch.holder r.tries.batch.seen r.lt quiet;
        written = skipped_written n i batch slot f m x v;
        told = Skips slot r.lt r.tries.batch.seen quiet refl refl (behind_part c slot block marks);
        pending = λ p. p;
        logged = refl;
        aside = aside_same m m2 refl refl;
        slot_is = refl;
        fits = behind_fits n i f m2 x c last slot block marks r.us r.vs r.ts
            (tries_on n i m m2 x c slot marks (slot + 1) marks r.us r.vs r.ts r.ts r.tries refl refl refl refl refl refl refl refl (here m.seen batch (slot + 1)) r.tries.batch.todo r.tries.marked
            (let k = r.tries.marks_le in omega arith) r.tries.active)
            r.used r.block_is r.lt (below_more m.head slot r.below taken);
      }

  active_then : 2 < f.heads slot → is_active (m.head slot) ≡ true
  active_then l = active_word f.links (f.heads slot) (m.head slot) (v.entries.headed slot) l

  -- as many slots are marked as the batch has blocks
  all_marked : block ≡ 0 → length (m.todo batch) ≡ length (m.blocks batch)
  all_marked none = ap length r.tries.batch.todo ∙ r.tries.marked ∙ sym r.used ∙ one r.vs refl
    where
      one : (vs : List ℕ) → r.vs ≡ vs → length r.us ≡ length (m.blocks batch)
      one [] e = ap length (sym (append-nil r.us) ∙ ap (λ (l : List ℕ). r.us ++ l) (sym e) ∙ sym r.tries.blocks)
      one (d ∷ vs) e =
          let blocks : m.blocks batch ≡ r.us ++ d ∷ vs = r.tries.blocks ∙ ap (λ (l : List ℕ). r.us ++ l) e in
          let pos : 0 < d = (chain_behind (x.behind batch) f.nexts _ r.us (d ∷ vs) (rw blocks at (open_chain n i f m x c inv v r.tries.common.slot_lt))).0 in
          let is : block ≡ link d = r.block_is ∙ ap (first_or 0) e in
          absurd (omega (arith, pos, is, none))

  -- it is active, and no block is left for it
  given_up_then : 2 < f.heads slot → block ≡ 0 → Stepped n i c Trying f m x f [] (onward c)
  given_up_then l none =
      let m2 = Moves.given_up m batch in
      let q = r.tries in
      let h = holding_on n i m m2 x c slot marks 0 0 r.us r.vs r.ts [] q refl refl refl refl refl refl refl refl (here m.seen batch 0) (here m.todo batch []) in
      record {
        m2 = m2;
        x2 = x;
        moved = given_up_moves n i c.slot m batch inv open_is q.batch.holder;
        written = given_up_written n i c.slot batch f m x v open_is;
        pending = λ p. p;
        logged = refl;
        aside = aside_same m m2 refl refl;
        slot_is = onward_slot c;
        told = GivesUp slot r.lt q.batch.seen (active_then l) (all_marked none) refl refl (onward_part c q.once)
            (nothing_left n i f m x v c.slot c.list c.pending c.reclaiming c.put_first q.common q.none_left q.put);
        fits = onward_fits n i f m2 x c (record {
          common = common_on n i m m2 x c slot marks 0 0 r.us r.vs r.ts [] q refl refl refl refl refl refl refl refl;
          popped = q.popped;
          closing = q.closing;
          put = λ e. q.put;
          put_last = q.put_last;
          batch = subst (λ (t : Bool). MayHold t i m2 x (bare c)) (sym q.holds) h;
          tries = λ e. absurd (cc (e, q.once));
        }) (λ ne. absurd (ne q.none_left));
      }

  -- it is active, and the next block is for it
  marks_then : 2 < f.heads slot → (block ≡ 0 → ⊥) → Stepped n i c Trying f m x f [] (standing c (at.Marks slot block marks))
  marks_then act some = one r.vs refl
    where
      one : (vs : List ℕ) → r.vs ≡ vs → Stepped n i c Trying f m x f [] (standing c (at.Marks slot block marks))
      one [] e = absurd (some (r.block_is ∙ ap (first_or 0) e))
      one (d ∷ vs) e = unmoved n i c Trying f m x (standing c (at.Marks slot block marks)) inv v refl (Finds slot r.lt r.tries.batch.seen (active_then act) refl refl refl) (record {
        us = r.us;
        d = d;
        vs = vs;
        ts = r.ts;
        tries = subst (λ (l : List ℕ). Tries n i m x (bare c) slot marks r.us l r.ts) e r.tries;
        used = r.used;
        block_is = r.block_is ∙ ap (first_or 0) e;
        lt = r.lt;
        below = below_more m.head slot r.below (taken_word f.links (f.heads slot) (m.head slot) (v.entries.headed slot) (λ z. omega (arith, z, act)));
      })

module _ {T : Type 0} (defers : T → Option ℕ) (n i : ℕ) (mem mem2 : Mem T) (m : State) (x : Extra) (c : Settle) (end : Settle × Settled T)
    (inv : Inv n m) (v : Shows n (view defers mem) m x) (last : n ≡ LAST_SLOT + 1) (slot block marks : ℕ) (r : Scans n i m x (bare c) slot block marks) where
  blocks_at : (w : ℕ) → (view defers mem).heads slot ≡ w → 2 < w → mem2 ≡ mem → (t : Bool) → (block == 0) ≡ t
      → Ends (value_at mem) (if t then to {T = T} (onward c) else goes c (at.Marks slot block marks)) end → Went defers n i c Trying mem m x [] mem2 end
  blocks_at w is act same true z e = went_loaded defers n i c Trying mem m x [] mem2 (onward c) Goes end tt e same (given_up_then n i (view defers mem) m x c inv v last slot block marks r (rw (sym is) at act) (eqb-true block 0 z))
  blocks_at w is act same false z e =
      went_loaded defers n i c Trying mem m x [] mem2 (standing c (at.Marks slot block marks)) Goes end tt e same
      (marks_then n i (view defers mem) m x c inv v last slot block marks r (rw (sym is) at act) (eqb-false block 0 z))

  active_at : (w : ℕ) → (view defers mem).heads slot ≡ w → (w ≡ 0 → ⊥) → mem2 ≡ mem → (t : Bool) → nat_lt w ACTIVE ≡ t
      → Ends (value_at mem) (if t then goes {T = T} c (behind slot block marks) else (if block == 0 then to (onward c) else goes c (at.Marks slot block marks))) end
      → Went defers n i c Trying mem m x [] mem2 end
  active_at w is ne same true z e =
      went_loaded defers n i c Trying mem m x [] mem2 (standing c (behind slot block marks)) Goes end tt e same
      (skips_then n i (view defers mem) m x c inv v last slot block marks r (λ k. ne (sym is ∙ k)) (let l = ltb-true w ACTIVE z in omega arith))
  active_at w is ne same false z e = blocks_at w is (let l = ltb-false w ACTIVE z in omega (arith, l)) same (block == 0) refl e

  never_at : (w : ℕ) → (view defers mem).heads slot ≡ w → mem2 ≡ mem → (t : Bool) → (w == NEVER) ≡ t
      → Ends (value_at mem) (if t then goes {T = T} c (at.Closes marks) else (if nat_lt w ACTIVE then goes c (behind slot block marks) else (if block == 0 then to (onward c) else goes c (at.Marks slot block marks)))) end
      → Went defers n i c Trying mem m x [] mem2 end
  never_at w is same true z e =
      went_loaded defers n i c Trying mem m x [] mem2 (standing c (at.Closes marks)) Goes end tt e same
      (closes_then n i (view defers mem) m x c inv v last slot block marks r (is ∙ eqb-true w 0 z))
  never_at w is same false z e = active_at w is (eqb-false w 0 z) same (nat_lt w ACTIVE) refl e

  pub scans_steps : Steps Took value_at mem (scans c slot block marks) mem2 end → Went defers n i c Trying mem m x [] mem2 end
  scans_steps st =
      let l = loaded mem (scanned c slot block marks) (Slot slot HEAD) mem2 end st in
      never_at l.0 (word_found mem (Slot slot HEAD) l.0 l.1) l.2 (l.0 == NEVER) refl l.3
