-- By each of its own steps a walk has shown one pair of each class that its map had all the time, or is to show one.
use Rattle.std.specs.Prelude.{◌≡◌, ◌≢◌, ℕ, suc, ◌+◌, ◌%◌, ◌^◌, ◌<◌, ◌≤◌, ◌==◌, ◌&&◌, nat_lt, Bool, true, false, cond, List, [], ◌∷◌, if◌then◌else◌}
use Rattle.std.proofs.Common.{refl, ap, sym, subst, ◌∙◌, arith, inl, inr}
use Rattle.std.proofs.lemmas.Bool.{cases_eq, ltb-false, eqb-false, eqb-true}
use Rattle.run_finds.specs.Given.SeizeWordsWord.{block_in}
use Rattle.run_finds.specs.Given.SeizeWorld.{World}
use Rattle.run_finds.specs.Given.TablesChunks.{is_incremental}
use Rattle.run_finds.specs.Given.TablesMarks.{has_mark}
use Rattle.run_finds.specs.Given.TablesDeclared.marks.TheConstants.{COPYING}
use Rattle.run_finds.specs.Given.TablesDeclared.node.Node.{Node}
use Rattle.run_finds.specs.Given.TablesDeclared.setting.Setting.{Setting}
use Rattle.run_finds.specs.Given.TablesDeclared.status.TheConstants.Status.{ABORTED}
use Rattle.run_finds.specs.Given.TablesDeclared.table.Table.{Table}
use Rattle.run_finds.specs.Given.ResizeDeclared.copier.Copier.{Copier}
use Rattle.run_finds.specs.Given.ResizeDeclared.yielding.Yielding.{Yielding}
use Rattle.run_finds.specs.Given.ResizeDeclared.yielding.Yielding.TheVariants as outcome
use Rattle.run_finds.specs.Given.SweepsSweep.{copied}
use Rattle.run_finds.specs.Given.SweepsSweepPoints.{removes, standing, past, beginning, entering, tableless, further, telling, at_pair, seen}
use Rattle.run_finds.specs.Given.ReservesDeclared.sweep.Purpose.{Purpose}
use Rattle.run_finds.specs.Given.ReservesDeclared.sweep.Purpose.TheVariants.{Walks, Clears, Retains}
use Rattle.run_finds.specs.Given.ReservesDeclared.sweep.Sweep.{Sweep}
use Rattle.run_finds.specs.Given.ReservesDeclared.sweep.Sweeping.{Sweeping}
use Rattle.run_finds.specs.Given.ReservesDeclared.sweep.Sweeping.TheVariants as at
use Rattle.run_finds.specs.Given.ReservesDeclared.sweep.Swept.{Swept}
use Rattle.run_finds.specs.Given.ReservesDeclared.sweep.Swept.TheVariants as swept
use Rattle.run_finds.specs.Given.RawProgress.{of_swept}
use Rattle.run_finds.specs.Given.RuleChart.{Phase, Holds, Chart}
use Rattle.run_finds.specs.Given.RuleInWorld.{IsMapIn}
use Rattle.run_finds.specs.Given.RuleMaps.{spot_of, IsTable}
use Rattle.run_finds.specs.Given.RuleMoments.{Moments}
use Rattle.run_finds.specs.Given.RuleRule.{is_of, names}
use Rattle.run_finds.specs.Given.RuleWords.{Blocks, byte_of, place_word}
use Rattle.run_finds.proofs.Given.RuleWords.PlaceWordsRead.{word-pair}
use Rattle.run_finds.specs.Given.PointsSteps.{AreLawful}
use Rattle.run_finds.specs.Given.LateCovers.{NamesPair}
use Rattle.run_finds.specs.Given.LateFactsSweeps.{WasRoot, HasNoTable, GoesOver, SweepingFacts}
use Rattle.run_finds.proofs.Given.LateSwept.Covers.Begins.{names_current}
use Rattle.run_finds.proofs.Given.LateSwept.Covers.Told.{next_is}
use Rattle.run_finds.proofs.Given.LateSwept.Sweeps.Moved.{SweepMoves}
use Rattle.run_finds.proofs.Given.LateSwept.Sweeps.Tables.{upto_in, live_in, pair_some}
use Rattle.run_finds.specs.Purposes.Keys.{of_class, LiesAtPlace, KeysTo, KeysCame, KeysAt}
use Rattle.run_sweeps.specs.Purposes.Kept.{ShowsNone}
use Rattle.run_finds.specs.Given.NamedMachines.{IsBefore}
use Rattle.run_sweeps.proofs.Purposes.KeysOn.{named_held, names_by, inside_of, IsLow, StandsLow}
use Rattle.run_sweeps.proofs.Purposes.Onward.{not_walking, not_retaining}

module _ {K V : Type 0} (same : K → K → Bool) (hash : K → ℕ) (are : AreLawful same hash) (setting : Setting) (caller began : ℕ) (w : World (Node K V)) (c : Chart K) (blocks : Blocks)
    (p : Sweep) (setting_is : p.setting ≡ setting) (walks : p.purpose ≡ Walks) (done : List ℕ) where
  -- what it has come to, and its table is the root, or was
  abbrev pub Stays : Sweep → List ℕ → Type 0
  Stays q list = KeysAt same (spot_of hash) (is_incremental setting.mode) c began q list q.stands × StandsLow c q q.stands

  -- where a step leads that shows no pair, or one
  abbrev pub Leads : Sweep × Swept (Node K V) → Type 0
  Leads (q, end) = (ShowsNone (of_swept end) → Stays q done) × ((word : ℕ) → end ≡ swept.Pair word → (n : ℕ) × NamesPair hash c blocks word n × Stays q (n ∷ done))

  removes_none : removes p.purpose ≡ false
  removes_none = ap removes walks

  same_mode : is_incremental p.setting.mode ≡ is_incremental setting.mode
  same_mode = ap (λ (s : Setting). is_incremental s.mode) setting_is

  -- it copies pairs on
  pub copies_lead : is_incremental setting.mode ≡ true → (end : Sweep × Swept (Node K V)) → (b : Copier × Yielding (Node K V) Table) → end ≡ copied p b → Leads end
  copies_lead bits end b is = subst Leads (sym is) (by b)
    where
      enters : (root : Table) (q : Bool) → q ≡ true → Leads (telling (if q then record p { table = root; stands = at.Follows } else beginning (record p { table = root })))
      enters root true e = (λ none. (bits, tt), λ word e. absurd (cc e))
      enters root false e = absurd (cc e)

      by : (b : Copier × Yielding (Node K V) Table) → Leads (copied p b)
      by (next, outcome.Goes) = (λ none. (bits, tt), λ word e. absurd (cc e))
      by (next, outcome.Waits) = (λ none. (bits, tt), λ word e. absurd (cc e))
      by (next, outcome.Gave value) = (λ none. (bits, tt), λ word e. absurd (cc e))
      by (next, outcome.Done root) = enters root (is_incremental p.setting.mode) (same_mode ∙ bits)
      by (next, outcome.Refused fault) = (λ none. (tt, tt), λ word e. absurd (cc e))

  module _ (map : IsMapIn same hash setting w c blocks) (moments : Moments (is_incremental setting.mode) c) (since : began ≤ c.now) where
    -- at the first place of the root, where no table follows in incremental mode
    module _ (none_done : done ≡ []) where
      begins_to : (table : Table) (t : ℕ) → IsTable c blocks table t → t ≡ c.first → (is_incremental setting.mode ≡ true → c.past ≤ suc c.first)
          → KeysTo same (spot_of hash) (is_incremental setting.mode) c began table 0 done
      begins_to table t there root last k always = by (always c.now since (omega arith))
        where
          turn : table.turn ≡ c.first
          turn = ap (λ (x : Table). x.turn) there.is ∙ root

          len : table.len ≡ c.len c.first
          len = ap (λ (x : Table). x.len) there.is ∙ ap c.len root

          by : (n : ℕ) × (c.was c.now n ≡ true) × (is_of same (spot_of hash) (is_incremental setting.mode) k (c.key n) ≡ true)
              → LiesAtPlace same (spot_of hash) (is_incremental setting.mode) c table 0 done k
          by (n, was, of) =
              let named = (names_current same hash c (is_incremental setting.mode) map.map.rule last n).0 (sym (moments.now_is n) ∙ was) in
              let l = inside_of same (spot_of hash) (is_incremental setting.mode) c map.map.rule.common c.first named.0 (n, named.1, named.2, named.3) in (
                named.0,
                omega (arith, l, len),
                names_by same (spot_of hash) (is_incremental setting.mode) c.key k (c.place table.turn named.0)
                    (n, named.1, named.2, ap (λ (x : ℕ). c.place x named.0) turn ∙ named.3) of,
                inr (omega arith, ap (of_class same (spot_of hash) (is_incremental setting.mode) c k) none_done),
              )

      begins_lead : (table : Table) (t : ℕ) → IsTable c blocks table t → t ≡ c.first → (is_incremental setting.mode ≡ true → c.past ≤ suc c.first) → Leads (telling (beginning (record p { table = table })))
      begins_lead table t there root last = by (removes p.purpose) removes_none
        where
          some : 0 < table.len
          some = let l = (map.map.rule.common.lens t there.made).0 in let len : table.len ≡ c.len t = ap (λ (x : Table). x.len) there.is in omega (arith, l, len)

          turn : table.turn ≡ c.first
          turn = ap (λ (x : Table). x.turn) there.is ∙ root

          low : IsLow c table
          low = (omega (arith, turn), subst (λ (x : ℕ). c.status x ≢ ABORTED) (sym turn) map.map.rule.common.live)

          by : (r : Bool) → r ≡ false → Leads (telling (record p { table = table; place = 0; met = false; stands = if r then at.Words else at.Ready }))
          by false e = (λ none. (inr (some, begins_to table t there root last), λ l. low), λ word e. absurd (cc e))
          by true e = absurd (cc e)

      -- a map without a table has no pair
      none_there : c.past ≤ c.first → KeysCame same (spot_of hash) (is_incremental setting.mode) c began done
      none_there bare k always = absurd (none (always c.now since (omega arith)))
        where
          past_none : (t : ℕ) → c.past ≤ t
          past_none t = elim (cases_eq c.past 0) as (λ _. c.past ≤ t) [
            | inl zero ↦ omega (arith, zero)
            | inr some ↦ absurd (let l = map.map.rule.common.rooted (omega (arith, some)) in omega (arith, l, bare))
          ]

          none : (n : ℕ) × (c.was c.now n ≡ true) × (is_of same (spot_of hash) (is_incremental setting.mode) k (c.key n) ≡ true) → ⊥
          none (n, was, of) =
              let s = map.map.rule.common.stands n (sym (moments.now_is n) ∙ was) in
              let empty = map.map.rule.common.unmade s.0 s.1 (past_none s.0) in
              let held = s.4 in cc (empty, held)

      tableless_lead : c.past ≤ c.first → HasNoTable same hash w caller setting c blocks began p → Leads (telling (tableless p))
      tableless_lead bare no_table = by (removes p.purpose) removes_none
        where
          zero : p.table.len ≡ 0
          zero = ap (λ (x : Table). x.len) no_table.0

          by : (r : Bool) → r ≡ false → Leads (telling (standing p (if r then at.Over else at.Ready)))
          by false e = (λ none. (inl (zero, none_there bare), λ some. absurd (omega (arith, some, zero))), λ word e. absurd (cc e))
          by true e = absurd (cc e)

      enters_lead : (table : Table) → IsTable c blocks table c.first → Leads (telling (entering p table))
      enters_lead table there = by (is_incremental p.setting.mode) same_mode
        where
          by : (b : Bool) → b ≡ is_incremental setting.mode → Leads (telling (if b then record p { table = table; stands = at.Follows } else beginning (record p { table = table })))
          by true e = (λ none. (sym e, tt), λ word e. absurd (cc e))
          by false e = begins_lead table c.first there refl (λ bits. absurd (cc (bits, e)))

      follows_lead : (t x : ℕ) → IsTable c blocks p.table t → WasRoot same hash w caller setting c blocks began t → IsTable c blocks p.table x → c.past ≤ suc x → Leads (telling (beginning p))
      follows_lead t x there root at_x last =
          let turn : x ≡ t = sym (ap (λ (y : Table). y.turn) at_x.is) ∙ ap (λ (y : Table). y.turn) there.is in
          let upto = upto_in same hash c began t (is_incremental setting.mode) root in
          let made = there.made in
          let first = map.map.rule.common.rooted (omega (arith, made)) in
          begins_lead p.table t there (omega (arith, turn, upto, first, last)) (λ bits. omega (arith, turn, upto, last))

    -- it has read the word of its place
    module _ (t x : ℕ) (over : GoesOver same hash w caller setting c blocks began p t) (inside : p.place < c.len t) (at_x : IsTable c blocks p.table x)
        (h : KeysTo same (spot_of hash) (is_incremental setting.mode) c began p.table p.place done) where
      abbrev word0 : ℕ
      word0 = place_word hash c blocks (c.place x p.place)

      turn : p.table.turn ≡ x
      turn = ap (λ (y : Table). y.turn) at_x.is

      turn_t : p.table.turn ≡ t
      turn_t = ap (λ (y : Table). y.turn) over.table.is

      low : IsLow c p.table
      low = (
        (let upto = upto_in same hash c began t (is_incremental setting.mode) over.root in omega (arith, upto, turn_t)),
        subst (λ (y : ℕ). c.status y ≢ ABORTED) (sym turn_t) (live_in same hash c began t (is_incremental setting.mode) map.map.rule over.root),
      )

      next : (p.place + 1) % 2 ^ 64 ≡ suc p.place
      next = next_is same hash setting w caller c blocks began p map t over inside

      -- no pair is there, and it is passed
      passes : block_in word0 ≡ 0 → KeysTo same (spot_of hash) (is_incremental setting.mode) c began p.table (suc p.place) done
      passes zero k always = by (h k always)
        where
          not_here : (i : ℕ) → names same (spot_of hash) (is_incremental setting.mode) c.key k (c.place p.table.turn i) ≡ true → i ≢ p.place
          not_here i named e =
              let held = (named_held same (spot_of hash) (is_incremental setting.mode) c.key k (c.place p.table.turn i) named).0 in
              pair_some same hash are.fits setting w c blocks map x p.place at_x.made at_x.known held.0 held.1 held.2
              (ap (λ (y : ℕ). c.place y p.place) (sym turn) ∙ ap (c.place p.table.turn) (sym e) ∙ held.3) {word = word0} refl zero

          by : LiesAtPlace same (spot_of hash) (is_incremental setting.mode) c p.table p.place done k → LiesAtPlace same (spot_of hash) (is_incremental setting.mode) c p.table (suc p.place) done k
          by (i, within, named, inl (l, one)) = (i, within, named, inl (omega (arith, l), one))
          by (i, within, named, inr (ahead, none)) = (i, within, named, inr ((let ne = not_here i named in omega (arith, ahead, ne)), none))

      further_lead : KeysTo same (spot_of hash) (is_incremental setting.mode) c began p.table (suc p.place) done → Leads (telling (further p))
      further_lead to = by (nat_lt ((p.place + 1) % 2 ^ 64) p.table.len) (removes p.purpose && p.met) refl (ap (λ (r : Bool). r && p.met) removes_none)
        where
          to2 : KeysTo same (spot_of hash) (is_incremental setting.mode) c began p.table ((p.place + 1) % 2 ^ 64) done
          to2 = subst (λ (y : ℕ). KeysTo same (spot_of hash) (is_incremental setting.mode) c began p.table y done) (sym next) to

          came : nat_lt ((p.place + 1) % 2 ^ 64) p.table.len ≡ false → KeysCame same (spot_of hash) (is_incremental setting.mode) c began done
          came far k always = by (to2 k always)
            where
              by : LiesAtPlace same (spot_of hash) (is_incremental setting.mode) c p.table ((p.place + 1) % 2 ^ 64) done k → of_class same (spot_of hash) (is_incremental setting.mode) c k done ≡ 1
              by (i, within, named, inl (l, one)) = one
              by (i, within, named, inr (ahead, none)) = absurd (let l = ltb-false ((p.place + 1) % 2 ^ 64) p.table.len far in omega (arith, within, ahead, l))

          by : (more again : Bool) → nat_lt ((p.place + 1) % 2 ^ 64) p.table.len ≡ more → again ≡ false
              → Leads (telling (standing (past p) (if more then at.Words else (if again then at.Follows else at.Over))))
          by true again more e = (λ none. (to2, low), λ word e. absurd (cc e))
          by false false far e = (λ none. (came far, tt), λ word e. absurd (cc e))
          by false true far e = absurd (cc e)

      -- its pair is shown
      module _ (n : ℕ) (phase : Phase) (borrowed : Bool) (there : c.place x p.place ≡ Holds n phase borrowed) where
        here : c.place p.table.turn p.place ≡ Holds n phase borrowed
        here = ap (λ (y : ℕ). c.place y p.place) turn ∙ there

        class_new : (k : K) (b : Bool) → is_of same (spot_of hash) (is_incremental setting.mode) k (c.key n) ≡ b
            → of_class same (spot_of hash) (is_incremental setting.mode) c k (n ∷ done) ≡ cond b 1 0 + of_class same (spot_of hash) (is_incremental setting.mode) c k done
        class_new k b e = ap (λ (q : Bool). cond q 1 0 + of_class same (spot_of hash) (is_incremental setting.mode) c k done) e

        shows_to : KeysTo same (spot_of hash) (is_incremental setting.mode) c began p.table (suc p.place) (n ∷ done)
        shows_to k always = by (h k always)
          where
            its : (i : ℕ) → names same (spot_of hash) (is_incremental setting.mode) c.key k (c.place p.table.turn i) ≡ true → i ≡ p.place
                → is_of same (spot_of hash) (is_incremental setting.mode) k (c.key n) ≡ true
            its i named e = sym (ap (names same (spot_of hash) (is_incremental setting.mode) c.key k) (ap (c.place p.table.turn) e ∙ here)) ∙ named

            other : (i : ℕ) → names same (spot_of hash) (is_incremental setting.mode) c.key k (c.place p.table.turn i) ≡ true → i ≢ p.place
                → is_of same (spot_of hash) (is_incremental setting.mode) k (c.key n) ≡ false
            other i named ne = by (is_of same (spot_of hash) (is_incremental setting.mode) k (c.key n)) refl
              where
                by : (b : Bool) → is_of same (spot_of hash) (is_incremental setting.mode) k (c.key n) ≡ b → is_of same (spot_of hash) (is_incremental setting.mode) k (c.key n) ≡ false
                by false e = e
                by true e =
                    let held = named_held same (spot_of hash) (is_incremental setting.mode) c.key k (c.place p.table.turn i) named in
                    absurd (ne (map.map.rule.common.once p.table.turn i p.place held.0.0 n held.0.1 phase held.0.2 borrowed k low.1 held.0.3 here held.1 e))

            by : LiesAtPlace same (spot_of hash) (is_incremental setting.mode) c p.table p.place done k → LiesAtPlace same (spot_of hash) (is_incremental setting.mode) c p.table (suc p.place) (n ∷ done) k
            by (i, within, named, inl (l, one)) = (
              i,
              within,
              named,
              inl (omega (arith, l), (let count = class_new k false (other i named (λ e. omega (arith, e, l))) in omega (arith, count, one))),
            )
            by (i, within, named, inr (ahead, none)) = elim (cases_eq i p.place) as (λ _. LiesAtPlace same (spot_of hash) (is_incremental setting.mode) c p.table (suc p.place) (n ∷ done) k) [
              | inl e ↦ (i, within, named, inl (omega (arith, e), (let count = class_new k true (its i named e) in omega (arith, count, none))))
              | inr ne ↦ (i, within, named, inr (omega (arith, ahead, ne), (let count = class_new k false (other i named ne) in omega (arith, count, none))))
            ]

        some : 0 < p.table.len
        some = let len : p.table.len ≡ c.len t = ap (λ (y : Table). y.len) over.table.is in omega (arith, inside, len)

        shows_lead : (purpose : Purpose) → purpose ≡ Walks → Leads (at_pair purpose p word0)
        shows_lead Walks is = (
          λ none. absurd none,
          λ word e. (
            n,
            subst (λ (y : ℕ). NamesPair hash c blocks y n) (let same_word : word0 ≡ word = cc e in same_word) (
              (map.map.rule.common.keyed x p.place n phase borrowed there).0,
              map.map.shows.named x p.place n phase borrowed at_x.made at_x.known there,
              phase,
              borrowed,
              ap (place_word hash c blocks) there,
            ),
            (
              inr (some, subst (λ (y : ℕ). KeysTo same (spot_of hash) (is_incremental setting.mode) c began p.table y (n ∷ done)) (sym next) shows_to),
              λ l. low,
            ),
          ),
        )
        shows_lead Clears is = absurd (cc is)
        shows_lead Retains is = absurd (cc is)

      seen_lead : Leads (seen p word0)
      seen_lead = by (removes p.purpose) removes_none (block_in word0 == 0) refl
        where
          shows : block_in word0 ≢ 0 → Leads (at_pair p.purpose p word0)
          shows some =
              let e = word-pair blocks.pair (λ o. byte_of hash (c.key o)) (c.place x p.place) (omega (arith, some)) in shows_lead e.0 e.1 e.2 e.3 p.purpose walks

          by : (r : Bool) → r ≡ false → (z : Bool) → (block_in word0 == 0) ≡ z
              → Leads (if r && has_mark word0 COPYING then telling (further (record p { met = true })) else (if z then telling (further p) else at_pair p.purpose p word0))
          by true e z zero = absurd (cc e)
          by false e true zero = further_lead (passes (eqb-true (block_in word0) 0 zero))
          by false e false zero = shows (eqb-false (block_in word0) 0 zero)

    -- each step
    pub walk_leads : (stage : Sweeping) → p.stands ≡ stage → SweepingFacts same hash w caller setting c blocks began p stage
        → KeysAt same (spot_of hash) (is_incremental setting.mode) c began p done stage → (IsBefore stage → done ≡ []) → StandsLow c p stage
        → (end : Sweep × Swept (Node K V)) (w2 : World (Node K V)) (c2 : Chart K) (blocks2 : Blocks) → SweepMoves same hash caller setting began w c blocks p stage end w2 c2 blocks2 → Leads end
    walk_leads at.Reads is none h at_first low end w2 c2 blocks2 (e, g, inl (bare, end_is)) = subst Leads (sym end_is) (tableless_lead (at_first tt) bare none)
    walk_leads at.Reads is none h at_first low end w2 c2 blocks2 (e, g, inr (table, there, end_is)) = subst Leads (sym end_is) (enters_lead (at_first tt) table there)
    walk_leads at.Follows is (t, there, root) h at_first low end w2 c2 blocks2 (e, g, x, at_x, inl (last, end_is)) =
        subst Leads (sym end_is) (follows_lead (at_first tt) t x there root at_x last)
    walk_leads at.Follows is (t, there, root) h at_first low end w2 c2 blocks2 (e, g, x, at_x, inr (table, end_is)) = subst Leads (sym end_is) (λ none. (h, tt), λ word e. absurd (cc e))
    walk_leads (at.Copies copier) is facts h at_first low end w2 c2 blocks2 (e, b, end_is, ends) = copies_lead h end b end_is
    walk_leads at.Words is (t, (over, inside)) h at_first low end w2 c2 blocks2 (e, g, (x, at_x, end_is)) = subst Leads (sym end_is) (seen_lead t x over inside at_x h)
    walk_leads at.Ready is facts h at_first low end w2 c2 blocks2 (e, end_is) =
        subst Leads (sym end_is) (
          λ none. subst (λ (x : Sweeping). KeysAt same (spot_of hash) (is_incremental setting.mode) c began p done x × StandsLow c p x) (sym is) (h, low),
          λ word e. absurd (cc e),
        )
    walk_leads at.Over is facts h at_first low end w2 c2 blocks2 (e, end_is) =
        subst Leads (sym end_is) (
          λ none. subst (λ (x : Sweeping). KeysAt same (spot_of hash) (is_incremental setting.mode) c began p done x × StandsLow c p x) (sym is) (h, tt),
          λ word e. absurd (cc e),
        )
    walk_leads (at.Refused fault) is facts h at_first low end w2 c2 blocks2 (e, end_is) =
        subst Leads (sym end_is) (
          λ none. subst (λ (x : Sweeping). KeysAt same (spot_of hash) (is_incremental setting.mode) c began p done x × StandsLow c p x) (sym is) (tt, tt),
          λ word e. absurd (cc e),
        )
    walk_leads (at.Asks word) is facts h at_first low end w2 c2 blocks2 moves = absurd (not_retaining p.purpose walks facts.0)
    walk_leads (at.Tries word) is facts h at_first low end w2 c2 blocks2 moves = absurd (not_walking p.purpose walks facts.0)
    walk_leads (at.Counts removed) is facts h at_first low end w2 c2 blocks2 moves = absurd (not_walking p.purpose walks facts.0)
    walk_leads (at.Disposes dispose) is facts h at_first low end w2 c2 blocks2 moves = absurd (not_walking p.purpose walks facts.0)
