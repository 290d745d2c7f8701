use Rattle.std.specs.List.Sorted.{IsPermutation}
use Rattle.std.proofs.Common.{◌≡◌, ◌∙◌, ap, sym, subst, refl}
use Rattle.seize_words.specs.declared.at.At.TheVariants.{Root}
use Rattle.map_tables.specs.Chunks.{is_incremental}
use Rattle.map_straight.specs.Shown.Chain.{HasTables, one_count, pairs_on, root_link, word_or_none}
use Rattle.map_straight.specs.Shown.Shown.{NoneMoves, pairs_stored}
use Rattle.map_straight.proofs.Shown.Chains.{root_counts, root_read, all_shown}
use Rattle.map_straight.proofs.Shown.Links.{read_as}
use Rattle.map_straight.proofs.iter.pairs_of.Goals as goal

pub from_link-requires-clause-counted : goal.from_link-requires-clause-counted
from_link-requires-clause-counted g c =
    let r = c.requires in
    root_counts r.0 r.1 c.args.memory.now c.args.setting r.2 r.3 r.4 c.load-link.result
    (read_as c.args.memory.now c.look.result.memory.now (Root c.args.setting.root) (Root c.args.setting.root) c.look.ensures refl c.load-link.result c.load-link.ensures.0)

pub from_link-requires-clause-read : goal.from_link-requires-clause-read
from_link-requires-clause-read g c =
    let r = c.requires in
    root_read r.0 r.1 c.args.memory.now c.args.setting r.2 r.3 r.4 c.load-link.result
    (read_as c.args.memory.now c.look.result.memory.now (Root c.args.setting.root) (Root c.args.setting.root) c.look.ensures refl c.load-link.result c.load-link.ensures.0)

pub returns-clause-all : goal.returns-clause-all
returns-clause-all g c = λ tables has.
    let on = c.from_link.result in let at = c.from_link.ensures.at in let m = c.args.memory.now in let first = root_link m c.args.setting in
    let is : c.load-link.result ≡ first =
    sym (ap word_or_none (read_as m c.look.result.memory.now (Root c.args.setting.root) (Root c.args.setting.root) c.look.ensures refl c.load-link.result c.load-link.ensures.0)) in
    let counted : HasTables m on.tables.count.0 first =
    subst (HasTables m on.tables.count.0) is (subst (λ w. HasTables w on.tables.count.0 c.load-link.result) at.0 (subst (HasTables on.tables.memory.now on.tables.count.0) at.2 on.tables.count.1)) in
    c.from_link.ensures.left ∙ ap (pairs_on m (is_incremental c.args.setting.mode) on.tables.count.0) is
    ∙ ap (λ n. pairs_on m (is_incremental c.args.setting.mode) n first) (one_count m on.tables.count.0 tables first counted has)

pub returns-clause-pairs : goal.returns-clause-pairs
returns-clause-pairs g c = λ eq hash chart blocks stands incremental none.
    let on = c.from_link.result in let at = c.from_link.ensures.at in
    subst (λ l. IsPermutation l (pairs_stored c.args.memory.now chart blocks chart.stored)) (sym c.from_link.ensures.left)
    (all_shown eq hash c.args.memory.now c.args.setting chart blocks stands c.load-link.result
    (read_as c.args.memory.now c.look.result.memory.now (Root c.args.setting.root) (Root c.args.setting.root) c.look.ensures refl c.load-link.result c.load-link.ensures.0)
    incremental (subst (λ b. NoneMoves b chart) (sym incremental) none) on.tables.count.0
    (subst (λ m. HasTables m on.tables.count.0 c.load-link.result) at.0 (subst (HasTables on.tables.memory.now on.tables.count.0) at.2 on.tables.count.1)))
