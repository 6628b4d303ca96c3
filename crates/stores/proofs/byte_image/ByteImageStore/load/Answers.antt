use Rattle.std.proofs.Common.{◌≡◌, ℕ, ◌/◌, List, take, length, refl, ap, subst, ◌∙◌, arith, rules, w32, length-take}
use Rattle.std.specs.List.{slice_get}
use Rattle.std.specs.Slice.{IsItemAt}
use Rattle.std.specs.Option.{option_map}
use Rattle.std.specs.Int.{from_le_bytes}
use Rattle.std.specs.Simd.{first_chunks}
use Rattle.stores.specs.Images.{words_of, image_words}
use Rattle.stores.proofs.Capped.{copied_item}
use Rattle.stores.proofs.Imaging.{quarter, chunk_load, load_bytes}
use Rattle.stores.proofs.byte_image.ByteImageStore.load.Goals as goal

pub slice_bounds-get-end : goal.slice_bounds-get-end
slice_bounds-get-end c =
    let bytes = c.args.self.now.bytes.now in
    let e = length-take 65536 (words_of bytes) in
    let f = length-take c.size.result c.as_chunks.result.0.now in
    let q = quarter bytes in
    omega arith

pub returns : goal.returns
returns c =
    let bytes = c.args.self.now.bytes.now in
    let chunks = first_chunks 4 (length bytes / 4) bytes in
    let size = c.size.result in
    let lookup : IsItemAt (take size chunks) c.args.at c.get.result = subst (λ (l : List (List ℕ)). IsItemAt (take size l) c.args.at c.get.result) c.as_chunks.ensures.front c.get.ensures.lookup in
    let copied : c.copied.result ≡ slice_get (take size chunks) c.args.at = c.copied.ensures ∙ copied_item (take size chunks) c.args.at c.get.result lookup in
    let mapped : c.map.result ≡ option_map (from_le_bytes w32) c.copied.result = search rules in
    let word : c.map.result ≡ slice_get (image_words bytes) c.args.at =
    mapped ∙ ap (option_map (from_le_bytes w32)) copied ∙ chunk_load bytes size (length bytes / 4) c.args.at c.size.ensures.size refl in
    record { word = word; bytes = load_bytes bytes c.args.at c.map.result word }
