-- The steps of a copying at a place of a chunk in incremental mode, over any memory.
use Rattle.std.specs.Prelude.{◌≡◌, ◌≢◌, ◌+◌, ◌-◌, ℕ, Bool, true, false, nat_lt, bit_or, if◌then◌else◌, IsSome, Option, Some, Ok, Err}
use Rattle.std.proofs.Common.{refl, sym, subst, ap, ◌∙◌}
use Rattle.std.proofs.lemmas.Bool.{eq-eqb, lt-ltb, ne_eqb}
use Rattle.seize_words.specs.OneMemory.Op.{Op, Out, Load, Store, Or, Exchange, Found, Stored, Exchanged}
use Rattle.seize_words.specs.OneMemory.Plan.{MaySee, Steps}
use Rattle.seize_words.specs.OneMemory.Word.{block_in}
use Rattle.map_tables.specs.Chunks.{is_incremental}
use Rattle.map_tables.specs.Marks.{has_mark, unmarked_in}
use Rattle.map_tables.specs.TablePlaces.{at_place}
use Rattle.map_tables.specs.Probes.{probe_after}
use Rattle.map_tables.specs.declared.marks.TheConstants.{BORROWED, COPIED, COPYING}
use Rattle.map_tables.specs.declared.node.Node.{Node}
use Rattle.map_tables.specs.declared.probe.Probe.{Probe}
use Rattle.map_tables.specs.declared.table.Table.{Table}
use Rattle.map_machines.specs.Copier.{copier_plan}
use Rattle.map_machines.specs.CopierMarks.{is_awaited, is_mine, key_hash, marked, probing, without_copying}
use Rattle.map_machines.specs.CopierPlaces.{copied_word, next_try}
use Rattle.map_machines.specs.CopierStates.{next_place, standing}
use Rattle.map_machines.specs.declared.copier.Copier.{Copier}
use Rattle.map_machines.specs.declared.copier.Copying.{Copying}
use Rattle.map_machines.specs.declared.copier.Copying.TheVariants as at
use Rattle.map_machines.specs.declared.yielding.Yielding.TheVariants as outcome
use Rattle.map_straight.specs.Straight.Copying.{IsMidst, further, missed, moved, one_more_done, placing}
use Rattle.map_straight.specs.Straight.Going.{CopyGoes, CopyLeads, MayCopy}
use Rattle.seize_straight.specs.Runs.{none_taken, one_more}
use Rattle.map_straight.specs.declared.copying.Placed.{Placed}
use Rattle.map_straight.specs.declared.copying.Placed.TheVariants as placed
use Rattle.seize_straight.proofs.Running.{leads_on, may_step, runs_along}

module _ {K V M : Type 0} (hash : K → ℕ) (can : M → Op (Node K V) → Type 0) (took : M → Op (Node K V) → Out (Node K V) → M → Type 0) (shown : M → ℕ → Option (Node K V)) where
  goes : (c d : Copier) (m n : M) → Steps took shown m (copier_plan hash c) n (d, outcome.Goes) → CopyLeads hash took shown c m d n
  goes c d m n s = one_more c m c m (none_taken c m) outcome.Goes tt d n s

  -- in incremental mode a pair is to be put into a place
  pub record Trying (c : Copier) (word k : ℕ) (table : Table) (probe : Probe) (m : M) : Type 0 where
    pub mode : is_incremental c.setting.mode ≡ true
    pub run : MayCopy hash took shown can (standing c (at.Probes word k table probe)) m

  -- and this was read there
  pub record Read (c : Copier) (word k : ℕ) (table : Table) (probe : Probe) (m n : M) (found : ℕ) : Type 0 where
    pub trying : Trying c word k table probe m
    pub loads : took m (Load (at_place table probe.i)) (Found found) n

  -- it is to mark a place of a chunk, and a further one follows
  pub record Midst (c : Copier) (m : M) : Type 0 where
    pub midst : IsMidst c
    pub run : MayCopy hash took shown can c m

  -- the place is marked, and its word was this one
  pub record Marked (c : Copier) (m n : M) (word : ℕ) : Type 0 where
    pub before : Midst c m
    pub ors : took m (Or (at_place c.source c.place) COPYING) (Found word) n

  -- which names a pair that it is to copy
  pub record Paired (c : Copier) (m n : M) (word : ℕ) (value : Node K V) (k : ℕ) : Type 0 where
    pub mark : Marked c m n word
    pub own : has_mark word COPYING ≡ false
    pub some : block_in word ≢ 0
    pub shows : shown n (block_in word) ≡ Some value
    pub hashes : k ≡ key_hash hash value

-- the next try
next_is : (c : Copier) → is_incremental c.setting.mode ≡ true → (word k : ℕ) (table : Table) (s : Copying) (probe : Probe)
    → next_try (standing c s) word k table probe ≡ standing c (placing word k table (missed table probe))
next_is c mode word k table s probe = by (nat_lt probe.len table.limit)
  where
    by : (b : Bool)
        → (if b then standing c (at.Probes word k table (probe_after probe (table.len - 1))) else
        (if is_incremental c.setting.mode then standing c (at.Passes word k table) else record c { place = 0; end = 0; done = 0; stands = at.Aborts }))
        ≡ standing c (placing word k table (if b then placed.Next (probe_after probe (table.len - 1)) else placed.Past))
    by true = refl
    by false = rw mode refl

module _ {K V M : Type 0} {hash : K → ℕ} {can : M → Op (Node K V) → Type 0} {took : M → Op (Node K V) → Out (Node K V) → M → Type 0} {shown : M → ℕ → Option (Node K V)}
    {c : Copier} {word k : ℕ} {table : Table} {probe : Probe} {m : M} where
  -- a pair is put into a place
  module _ (h : Trying hash can took shown c word k table probe m) where
    abbrev to_try : Copier
    to_try = standing c (at.Probes word k table probe)

    pub can_read : can m (Load (at_place table probe.i))
    can_read = (may_step CopyGoes took shown (copier_plan hash) can to_try m h.run).0

  module _ {n : M} {found : ℕ} (h : Read hash can took shown c word k table probe m n found) where
    abbrev tried : Copier
    tried = standing c (at.Probes word k table probe)

    pub is_taken : found ≢ 0 → (result : Placed) → result ≡ missed table probe → CopyLeads hash took shown tried m (standing c (placing word k table result)) n
    is_taken some result is =
        subst (λ (r : Placed). CopyLeads hash took shown tried m (standing c (placing word k table r)) n) (sym is)
        (goes hash can took shown tried (standing c (placing word k table (missed table probe))) m n
        (Found found, h.loads, rw (ne_eqb found 0 some) (ap (λ x. (x, outcome.Goes)) (sym (next_is c h.trying.mode word k table (at.Probes word k table probe) probe)))))

    module _ (none : found ≡ 0) where
      abbrev putting : Copier
      putting = standing c (at.Puts word k table probe)

      is_empty : CopyLeads hash took shown tried m putting n
      is_empty = goes hash can took shown tried putting m n (Found found, h.loads, rw (eq-eqb found 0 none) refl)

      word_is : copied_word putting word ≡ unmarked_in word + BORROWED
      word_is = rw h.trying.mode refl

      module _ (new : ℕ) (new_is : new ≡ unmarked_in word + BORROWED) where
        pub can_put : can n (Exchange (at_place table probe.i) 0 new)
        can_put =
            subst (λ w. can n (Exchange (at_place table probe.i) 0 w)) (word_is ∙ sym new_is)
            (may_step CopyGoes took shown (copier_plan hash) can putting n (runs_along CopyGoes took shown (copier_plan hash) can tried putting m n is_empty h.trying.run)).0

        module _ (j : M) (was : ℕ) where
          pub was_put : took n (Exchange (at_place table probe.i) 0 new) (Exchanged (Ok was)) j → CopyLeads hash took shown tried m (standing c (at.Covers word)) j
          was_put puts =
              one_more tried m putting n is_empty outcome.Goes tt (standing c (at.Covers word)) j
              (Exchanged (Ok was), subst (λ w. took n (Exchange (at_place table probe.i) 0 w) (Exchanged (Ok was)) j) (new_is ∙ sym word_is) puts, rw h.trying.mode refl)

          pub was_lost : took n (Exchange (at_place table probe.i) 0 new) (Exchanged (Err was)) j → (result : Placed) → result ≡ missed table probe
              → CopyLeads hash took shown tried m (standing c (placing word k table result)) j
          was_lost loses result is =
              subst (λ (r : Placed). CopyLeads hash took shown tried m (standing c (placing word k table r)) j) (sym is)
              (one_more tried m putting n is_empty outcome.Goes tt (standing c (placing word k table (missed table probe))) j (
                Exchanged (Err was),
                subst (λ w. took n (Exchange (at_place table probe.i) 0 w) (Exchanged (Err was)) j) (new_is ∙ sym word_is) loses,
                ap (λ x. (x, outcome.Goes)) (sym (next_is c h.trying.mode word k table (at.Puts word k table probe) probe)),
              ))

module _ {K V M : Type 0} {hash : K → ℕ} {can : M → Op (Node K V) → Type 0} {took : M → Op (Node K V) → Out (Node K V) → M → Type 0} {shown : M → ℕ → Option (Node K V)}
    {c : Copier} {m : M} where
  -- a place is marked
  module _ (h : Midst hash can took shown c m) where
    abbrev marks : Copier
    marks = standing c at.Marks

    is : c ≡ marks
    is = ap (λ s. standing c s) h.midst.0

    here : CopyLeads hash took shown c m marks m
    here = subst (λ (d : Copier). CopyLeads hash took shown c m d m) is (none_taken c m)

    may_mark : MayCopy hash took shown can marks m
    may_mark = subst (λ (d : Copier). MayCopy hash took shown can d m) is h.run

    next_is_further : (done : ℕ) → next_place (record marks { done = done }) ≡ further c done
    next_is_further done = rw (lt-ltb c.place (c.end - 1) h.midst.3) refl

    -- it stands there as it stood
    stays : (n : M) (done : ℕ) → CopyLeads hash took shown c m (further c done) n → CopyLeads hash took shown c m (moved c done) n
    stays n done l = subst (λ s. CopyLeads hash took shown c m (record c { place = c.place + 1; done = done; stands = s }) n) (sym h.midst.0) l

    pub can_mark : can m (Or (at_place c.source c.place) COPYING)
    can_mark = (may_step CopyGoes took shown (copier_plan hash) can marks m may_mark).0

  module _ {n : M} {word : ℕ} (h : Marked hash can took shown c m n word) where
    abbrev at_marks : Copier
    at_marks = standing c at.Marks

    may_look : MaySee (shown n) (marked hash at_marks (Found word))
    may_look = (may_step CopyGoes took shown (copier_plan hash) can at_marks m (may_mark h.before)).1 (Found word) n h.ors

    -- its mark leads on to the next place
    pub is_others : has_mark word COPYING ≡ true → CopyLeads hash took shown c m (moved c c.done) n
    is_others has =
        stays h.before n c.done (one_more c m at_marks m (here h.before) outcome.Goes tt (further c c.done) n
        (Found word, h.ors, rw mine (rw awaited (ap (λ x. (x, outcome.Goes)) (sym (next_is_further h.before c.done))))))
      where
        mine : is_mine at_marks word ≡ false
        mine = rw h.before.midst.2 (rw has refl)

        awaited : is_awaited at_marks word ≡ false
        awaited = rw h.before.midst.1 refl

    module _ (own : has_mark word COPYING ≡ false) where
      is_own : is_mine at_marks word ≡ true
      is_own = rw h.before.midst.2 (rw own refl)

      pub is_vacant : block_in word ≡ 0 → CopyLeads hash took shown c m (moved c (one_more_done c.done)) n
      is_vacant none =
          stays h.before n (one_more_done c.done) (one_more c m at_marks m (here h.before) outcome.Goes tt (further c (one_more_done c.done)) n
          (Found word, h.ors, rw is_own (rw (eq-eqb (block_in word) 0 none) (ap (λ x. (x, outcome.Goes)) (sym (next_is_further h.before (one_more_done c.done)))))))

      pub can_look : block_in word ≢ 0 → IsSome (shown n (block_in word))
      can_look some = let s = rw (ne_eqb (block_in word) 0 some) at (rw is_own at may_look) in s.0

  -- its pair is put into the table that is copied into, or is to be
  module _ {n : M} {word : ℕ} {value : Node K V} {k : ℕ} (h : Paired hash can took shown c m n word value k) where
    abbrev probes : Copier
    probes = probing c (without_copying word) k c.target

    is_pair : CopyLeads hash took shown c m probes n
    is_pair =
        subst (λ x. CopyLeads hash took shown c m (probing c (without_copying word) x c.target) n) (sym h.hashes)
        (one_more c m (at_marks h.mark) m (here h.mark.before) outcome.Goes tt (probing c (without_copying word) (key_hash hash value) c.target) n
        (Found word, h.mark.ors, rw (is_own h.mark h.own) (rw (ne_eqb (block_in word) 0 h.some) (value, h.shows, refl))))

    pub may_place : MayCopy hash took shown can probes n
    may_place = runs_along CopyGoes took shown (copier_plan hash) can c probes m n is_pair h.mark.before.run

    module _ (j : M) (result : Placed) (put : CopyLeads hash took shown probes n (standing c (placing (without_copying word) k c.target result)) j) where
      pub came : CopyLeads hash took shown c m (standing c (placing (without_copying word) k c.target result)) j
      came = leads_on CopyGoes took shown (copier_plan hash) c probes (standing c (placing (without_copying word) k c.target result)) m n j is_pair put

    -- the place is covered
    module _ (j : M) (put : CopyLeads hash took shown probes n (standing c (at.Covers (without_copying word))) j) where
      abbrev covering : Copier
      covering = standing c (at.Covers (without_copying word))

      to_cover : CopyLeads hash took shown c m covering j
      to_cover = came j placed.Put put

      pub can_cover : can j (Store (at_place c.source c.place) (bit_or (bit_or (without_copying word) COPYING) COPIED))
      can_cover = (may_step CopyGoes took shown (copier_plan hash) can covering j (runs_along CopyGoes took shown (copier_plan hash) can c covering m j to_cover h.mark.before.run)).0

      pub was_covered : (i : M) → took j (Store (at_place c.source c.place) (bit_or (bit_or (without_copying word) COPYING) COPIED)) Stored i
          → CopyLeads hash took shown c m (moved c (one_more_done c.done)) i
      was_covered i stores =
          stays h.mark.before i (one_more_done c.done) (one_more c m covering j to_cover outcome.Goes tt (further c (one_more_done c.done)) i
          (Stored, stores, ap (λ x. (x, outcome.Goes)) (sym (next_is_further h.mark.before (one_more_done c.done)))))
