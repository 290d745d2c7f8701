use Rattle.std.proofs.Common.{rules, ◌-◌, ◌<◌, Some, length, refl, ◌∙◌}
use Rattle.seize_words.specs.OneMemory.Buckets.{all_in}
use Rattle.seize_words.specs.OneMemory.Mem.{free_from}
use Rattle.seize_words.proofs.OneMemory.DirectoryKept.{bucket_there, found, index_within, IsDirectory-reused, nothing_there, number_some, number_within, place_fits, written}
use Rattle.seize_words.proofs.directory.Directory.reuse.Goals as goal

pub overflow_sub-number : goal.overflow_sub-number
overflow_sub-number g c = number_some c.self.inside.count c.self.inside.buckets.items c.self.inside.free c.self.invariant c.args.before c.take-number.result (rw c.self.view_is c.requires) c.take-number.ensures.number

pub place_of-bucket-requires : goal.place_of-bucket-requires
place_of-bucket-requires g c =
    let few : c.args.before < length (free_from 1 (all_in c.self.inside.buckets.items)) = rw c.self.view_is c.requires in
    let inside = number_within c.self.inside.count c.self.inside.buckets.items c.self.inside.free c.self.invariant c.args.before c.take-number.result few c.take-number.ensures.number in
    place_fits c.self.inside.count c.self.inside.buckets.items c.self.inside.free c.self.invariant (c.take-number.result - 1) inside

pub index_mut-requires : goal.index_mut-requires
index_mut-requires g c =
    let few : c.args.before < length (free_from 1 (all_in c.self.inside.buckets.items)) = rw c.self.view_is c.requires in
    let inside = number_within c.self.inside.count c.self.inside.buckets.items c.self.inside.free c.self.invariant c.args.before c.take-number.result few c.take-number.ensures.number in
    search (rules, bucket_there c.self.inside.count c.self.inside.buckets.items c.self.inside.free c.self.invariant (c.take-number.result - 1) inside c.place_of-bucket.result.0 c.place_of-bucket.result.1 c.place_of-bucket.ensures.place)

pub put-requires-clause-within : goal.put-requires-clause-within
put-requires-clause-within g c =
    let few : c.args.before < length (free_from 1 (all_in c.self.inside.buckets.items)) = rw c.self.view_is c.requires in
    let inside = number_within c.self.inside.count c.self.inside.buckets.items c.self.inside.free c.self.invariant c.args.before c.take-number.result few c.take-number.ensures.number in
    index_within c.self.inside.count c.self.inside.buckets.items c.self.inside.free c.self.invariant (c.take-number.result - 1) inside c.place_of-bucket.result.0 c.place_of-bucket.result.1 c.place_of-bucket.ensures.place c.index_mut.result.now c.index_mut.ensures.value

pub put-requires-clause-free : goal.put-requires-clause-free
put-requires-clause-free g c =
    let few : c.args.before < length (free_from 1 (all_in c.self.inside.buckets.items)) = rw c.self.view_is c.requires in
    let inside = number_within c.self.inside.count c.self.inside.buckets.items c.self.inside.free c.self.invariant c.args.before c.take-number.result few c.take-number.ensures.number in
    found c.self.inside.count c.self.inside.buckets.items c.self.inside.free c.self.invariant (c.take-number.result - 1) inside c.place_of-bucket.result.0 c.place_of-bucket.result.1 c.place_of-bucket.ensures.place c.index_mut.result.now c.index_mut.ensures.value
    ∙ nothing_there c.self.inside.count c.self.inside.buckets.items c.self.inside.free c.self.invariant c.args.before c.take-number.result few c.take-number.ensures.number

pub invariant_of-self : goal.invariant_of-self
invariant_of-self g c =
    let few : c.args.before < length (free_from 1 (all_in c.self.inside.buckets.items)) = rw c.self.view_is c.requires in
    let inside = number_within c.self.inside.count c.self.inside.buckets.items c.self.inside.free c.self.invariant c.args.before c.take-number.result few c.take-number.ensures.number in
    rw c.take-number.ensures.after
    (IsDirectory-reused c.self.inside.count c.self.inside.buckets.items c.self.inside.free c.self.invariant (c.take-number.result - 1) inside c.place_of-bucket.result.0 c.place_of-bucket.result.1 c.place_of-bucket.ensures.place c.index_mut.result.now c.index_mut.ensures.value c.put.new.self c.args.made c.args.before c.take-number.result c.put.ensures few
    c.take-number.ensures.number refl)

pub returns-clause-after : goal.returns-clause-after
returns-clause-after g c =
    let few : c.args.before < length (free_from 1 (all_in c.self.inside.buckets.items)) = rw c.self.view_is c.requires in
    let inside = number_within c.self.inside.count c.self.inside.buckets.items c.self.inside.free c.self.invariant c.args.before c.take-number.result few c.take-number.ensures.number in
    rw (← c.self.view_is)
    (written c.self.inside.count c.self.inside.buckets.items c.self.inside.free c.self.invariant (c.take-number.result - 1) inside c.place_of-bucket.result.0 c.place_of-bucket.result.1 c.place_of-bucket.ensures.place c.index_mut.result.now c.index_mut.ensures.value c.put.new.self (Some c.args.made) c.put.ensures)
