-- In incremental mode, what a copier knows that tries the places of a pair's key in later tables.
use Rattle.std.specs.Prelude.{◌-◌, nat_lt, if◌then◌else◌, Some, None}
use Rattle.std.proofs.Common.{◌≡◌, ℕ, suc, ◌<◌, Bool, true, false, ap, ◌∙◌, arith}
use Rattle.papaya_raw.specs.Given.SeizeWorld.{World}
use Rattle.papaya_raw.specs.Given.TablesLengths.{IsTableLen}
use Rattle.papaya_raw.specs.Given.TablesChunks.{is_incremental}
use Rattle.map_rule.specs.Given.ResizeCopierStates.{standing}
use Rattle.map_rule.specs.Given.ResizeCopierMarks.{probing}
use Rattle.map_rule.specs.Given.ResizeCopierPlaces.{next_try}
use Rattle.papaya_raw.specs.Given.TablesProbes.{probe_from, probe_after}
use Rattle.papaya_raw.specs.Given.TablesTrials.{trial_at}
use Rattle.papaya_raw.specs.Given.TablesDeclared.node.Node.{Node}
use Rattle.papaya_raw.specs.Given.TablesDeclared.probe.Probe.{Probe}
use Rattle.papaya_raw.specs.Given.TablesDeclared.setting.Setting.{Setting}
use Rattle.papaya_raw.specs.Given.TablesDeclared.table.Table.{Table}
use Rattle.map_rule.specs.Given.ResizeDeclared.copier.Copier.{Copier}
use Rattle.map_rule.specs.Given.ResizeDeclared.copier.Copying.{Copying as Point}
use Rattle.map_rule.specs.Given.ResizeDeclared.copier.Copying.TheVariants as at
use Rattle.map_rule.specs.Chart.{Chart, is_taken}
use Rattle.map_rule.specs.Rule.{tried}
use Rattle.map_rule.specs.Moves.{Taken}
use Rattle.map_rule.specs.Words.{Blocks}
use Rattle.map_rule.specs.Maps.{spot_of, IsTable}
use Rattle.map_facts.specs.FactsCopies.{Works, Tries, LooksFor, CopierFacts}
use Rattle.map_rule.proofs.Keys.AllBelow.{all_below}
use Rattle.map_rule.proofs.Keys.TriesSeen.{IsNext, first_is, next_is}
use Rattle.map_rule.proofs.Keys.LaterTables.{tried_shut, between_further}

-- the lengths of tables are such, and limits within
abbrev pub IsTableLens : {K : Type 0} → Chart K → Type 0
IsTableLens c = (t : ℕ) → t < c.past → IsTableLen (c.len t) × (c.limit t < c.len t)

module _ {K V : Type 0} (same : K → K → Bool) (hash : K → ℕ) (w : World (Node K V)) (caller : ℕ) (setting : Setting) (c : Chart K) (blocks : Blocks) where
  -- it works on the same pair, wherever it stands
  pub works_standing : (p : Copier) (stands : Point) (n : ℕ) (k : K) (word : ℕ) → Works same hash w caller setting c blocks p n k word
      → Works same hash w caller setting c blocks (standing p stands) n k word
  works_standing p stands n k word works = record {
    copies = works.copies;
    has_done = works.has_done;
    claims = works.claims;
    in_range = works.in_range;
    settled = works.settled;
    borrowed = works.borrowed;
    place = works.place;
    key = works.key;
    word_is = works.word_is;
  }

  -- a try stays one, wherever it stands
  pub tries_standing : (p : Copier) (stands : Point) (word code : ℕ) (table : Table) (probe : Probe) → Tries same hash w caller setting c blocks p word code table probe
      → Tries same hash w caller setting c blocks (standing p stands) word code table probe
  tries_standing p stands word code table probe (n, k, t, j, works, code_is, later, trial, taken, looks) =
      (n, k, t, j, works_standing p stands n k word works, code_is, later, trial, taken, looks)

  -- it begins with the first place of the pair's key in a table
  pub facts_probing : (p : Copier) (word code : ℕ) (table : Table) (n t : ℕ) (k : K) → p.setting ≡ setting → IsTableLens c → Works same hash w caller setting c blocks p n k word
      → code ≡ hash k → c.first < t → IsTable c blocks table t → LooksFor same hash w caller setting c blocks k t
      → CopierFacts same hash w caller setting c blocks (probing p word code table)
  facts_probing p word code table n t k is lens works code_is later entered looks = record {
    setting_is = is;
    point = (
      n,
      k,
      t,
      0,
      works_standing p (at.Probes word code table (probe_from code (table.len - 1))) n k word works,
      code_is,
      later,
      first_is c blocks code t table entered (lens t entered.made).0,
      λ g l. absurd (omega arith),
      looks,
    );
  }

  -- the tries up to this one are taken: it goes on to the next one, or past the table
  pub facts_next_try : (p : Copier) (word code : ℕ) (table : Table) (probe : Probe) → p.setting ≡ setting → is_incremental setting.mode ≡ true
      → IsTableLens c → (tries : Tries same hash w caller setting c blocks p word code table probe)
      → is_taken true (tried same (spot_of hash) true c tries.2 tries.1 tries.3) ≡ true
      → CopierFacts same hash w caller setting c blocks (next_try p word code table probe)
  facts_next_try p word code table probe is bits lens (n, k, t, j, works, code_is, later, trial, taken, looks) here =
      by_test (nat_lt probe.len table.limit) (next_is c blocks code t (trial_at table probe) j trial (lens t made).0 (lens t made).1)
    where
      made : t < c.past
      made = trial.table.made

      mode : is_incremental p.setting.mode ≡ true
      mode = ap (λ (s : Setting). is_incremental s.mode) is ∙ bits

      all : (g : ℕ) → g < suc j → Taken same (spot_of hash) true c t k g
      all = all_below (λ g. Taken same (spot_of hash) true c t k g) j taken here

      past : j ≡ c.limit t → CopierFacts same hash w caller setting c blocks (standing p (at.Passes word code table))
      past last = record {
        setting_is = is;
        point = (
          n,
          k,
          t,
          works_standing p (at.Passes word code table) n k word works,
          code_is,
          later,
          trial.table,
          (looks.0, between_further same (spot_of hash) c k t looks.1 (tried_shut same (spot_of hash) c k looks.0 t later (λ g l. all g (omega arith)))),
        );
      }

      by_test : (b : Bool)
          → IsNext c blocks code t (if b then Some (trial_at table (probe_after probe (table.len - 1))) else None) j
          → CopierFacts same hash w caller setting c blocks
          (if b then standing p (at.Probes word code table (probe_after probe (table.len - 1))) else
          (if is_incremental p.setting.mode then standing p (at.Passes word code table) else record p { place = 0; end = 0; done = 0; stands = at.Aborts }))
      by_test true next = record {
        setting_is = is;
        point = (
          n,
          k,
          t,
          suc j,
          works_standing p (at.Probes word code table (probe_after probe (table.len - 1))) n k word works,
          code_is,
          later,
          next,
          all,
          looks,
        );
      }
      by_test false last = rw mode (past last)
