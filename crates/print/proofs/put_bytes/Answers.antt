-- Goals of `print::put_bytes` that the search leaves. Assumes nothing.
use Rattle.std.proofs.Common.{◌+◌, ◌-◌, length, take, drop, append_assoc, refl, sym, ◌∙◌, arith}
use Rattle.std.proofs.lemmas.List.Edits.{sets-eq, paste_all}
use Rattle.std.proofs.lemmas.Slice.{put_mid-paste}
use Rattle.print.proofs.put_bytes.Goals as goal

pub returns : goal.returns
returns c =
    let a = c.args in
    let xs = a.out.now in
    let ys = a.bytes.now in
    let n = length ys in (
      put_mid-paste a.at (a.at + n - a.at) xs c.copy_from_slice.new.self ys n c.copy_from_slice.ensures.after (omega arith) refl
          ∙ paste_all xs a.at ys n refl
          ∙ sym (sets-eq ys xs a.at c.requires ∙ append_assoc (take a.at xs) ys (drop (a.at + n) xs)),
      refl,
    )
