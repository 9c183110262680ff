-- `day_tally::pushed`: one mask in front.
use Rattle.std.proofs.Common.{◌≡◌, length, append-nil, refl, sym, arith, rules}
use Rattle.std.proofs.lemmas.List.{length-take-le}
use Rattle.rules_designation.specs.Tallies.{pushed}
use Rattle.day_tally.proofs.pushed.Goals as goal

pub slice_bounds-copy_from_slice-length-2 : goal.slice_bounds-copy_from_slice-length-2
slice_bounds-copy_from_slice-length-2 c =
    let n : length c.args.masks ≡ 60 = search rules in
    sym (length-take-le 59 c.args.masks (omega arith))

pub copy_from_slice-requires : goal.copy_from_slice-requires
copy_from_slice-requires c =
    let n : length c.args.masks ≡ 60 = search rules in
    sym (length-take-le 59 c.args.masks (omega arith))

pub returns : goal.returns
unfolding pushed
returns c = rw (append-nil, c.copy_from_slice.ensures.after) refl
