-- `output::head_bytes` meets its contract: with each part spelt out, both sides are the same 27 bytes. Assumes nothing.
use Rattle.std.proofs.Common.{rules, ◌≡◌, refl}
use Rattle.octets.specs.Numbers.{bytes_of}
use Rattle.octets.specs.Parts.{one_by_one}
use Rattle.label.specs.Times.{label_bytes}
use Rattle.output.proofs.Filling.{six, head-is}
use Rattle.output.proofs.head_bytes.Goals as goal

pub slice_bounds-head-end-5 : goal.slice_bounds-head-end-5
unfolding bytes_of
slice_bounds-head-end-5 c =
    let s : c.copy_from_slice.new.self ≡ bytes_of 2 c.args.header.serial = search rules in
    let t : c.copy_from_slice-2.new.self ≡ label_bytes c.args.header.label = search rules in
    let a : c.copy_from_slice-3.new.self ≡ one_by_one c.args.header.source 0 6 = search (rules, six) in
    let b : c.copy_from_slice-4.new.self ≡ one_by_one c.args.header.destination 0 6 = search (rules, six) in
    simp (s, t, a, b) (search rules)

pub returns : goal.returns
unfolding bytes_of
returns c =
    let s : c.copy_from_slice.new.self ≡ bytes_of 2 c.args.header.serial = search rules in
    let t : c.copy_from_slice-2.new.self ≡ label_bytes c.args.header.label = search rules in
    let a : c.copy_from_slice-3.new.self ≡ one_by_one c.args.header.source 0 6 = search (rules, six) in
    let b : c.copy_from_slice-4.new.self ≡ one_by_one c.args.header.destination 0 6 = search (rules, six) in
    let l : c.copy_from_slice-5.new.self ≡ bytes_of 2 c.args.length = search rules in
    simp (s, t, a, b, l) (head-is c.args.header c.args.length _ _ _ refl refl refl (search rules) (search rules))
