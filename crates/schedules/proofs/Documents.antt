-- Parts of a document.
use Rattle.std.proofs.Common.{◌≡◌, ℕ, Bool, true, false, cond, List, [], ◌∷◌, Some, None, refl, ap, ◌&&◌, String, Global, string_bytes, IsUtf8}
use Rattle.std.specs.Str.{is_utf8}
use Rattle.std.specs.List.{list_all}
use Rattle.std.specs.Map.{keys_of}
use Rattle.std.proofs.lemmas.Str.{IsUtf8-from_is_utf8, is_utf8-from_IsUtf8}
use Rattle.toml.specs.Data.{Members}
use Rattle.toml.specs.Parse.{parse_document}
use Rattle.toml.specs.View.{members_view}
use Rattle.toml.specs.declared.value.Value.{Value}
use Rattle.schedules.specs.Document.{document, only_keys}

pub document_of_text : (bytes : List ℕ) (top : Members) → IsUtf8 bytes → parse_document bytes ≡ Some top → document bytes ≡ Some top
document_of_text bytes top text parsed = rw (is_utf8-from_IsUtf8 bytes text) parsed

pub no_document : (bytes : List ℕ) → (IsUtf8 bytes → parse_document bytes ≡ None) → document bytes ≡ None
no_document bytes refused = by_text (is_utf8 bytes) refl
  where
    by_text : (b : Bool) → is_utf8 bytes ≡ b → cond b (parse_document bytes) None ≡ None
    by_text true e = refused (IsUtf8-from_is_utf8 bytes e)
    by_text false e = refl

pub only_keys-members_view : (known : List ℕ → Bool) (es : List (String Global × Value)) → only_keys known (members_view es) ≡ list_all (λ key. known (string_bytes key)) (keys_of es)
only_keys-members_view known [] = refl
only_keys-members_view known (e ∷ es) = ap (λ b. known (string_bytes e.0) && b) (only_keys-members_view known es)

pub ruleset parts = (only_keys-members_view, document_of_text, no_document)
