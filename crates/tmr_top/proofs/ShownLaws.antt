-- Refusals that show the line that they name.
use Rattle.std.proofs.Common.{◌≡◌, ◌≤◌, ℕ, List, [], ◌∷◌, ◌++◌, length, Some, Result, Ok, Err, inl, inr, refl, sym, ap, subst, ◌∙◌, append_assoc, append-nil}
use Rattle.std.specs.Prelude.{IfOk, OnOk, Vec}
use Rattle.std.specs.FinMap.{get}
use Rattle.std.specs.declared.alloc.Global.{Global}
use Rattle.blif_text.specs.Kind.{Bad}
use Rattle.blif_text.specs.Models.{PlainModel}
use Rattle.blif_text.specs.Reading.{reading}
use Rattle.blif_text.specs.declared.fault.TextKind.{TextKind}
use Rattle.certificate.specs.Reading.{cert_of_text}
use Rattle.certificate.specs.declared.fault.CertFault.{CertFault}
use Rattle.explaining.specs.Lines.{shown_line}
use Rattle.flat_net.specs.Free.{FreeDesign}
use Rattle.flat_net.specs.Net.{Net}
use Rattle.limits.specs.declared.Limits.{Limits}
use Rattle.limits.specs.Most.{most_hardened}
use Rattle.tmr_outside.specs.Contents.{Contents}
use Rattle.tmr_texts.specs.Reasons.{kind_text, cert_reason}
use Rattle.tmr_texts.specs.Texts.{refused_line, line_reason}
use Rattle.tmr_words.specs.Line.{Pair}
use Rattle.tmr_top.specs.declared.loads.Stop.{Stop}
use Rattle.tmr_top.specs.declared.loads.Stop.TheVariants as stop
use Rattle.tmr_top.specs.declared.pair_files.Designs.{Designs}
use Rattle.tmr_top.specs.Designs.{HoldsDesign}
use Rattle.tmr_top.specs.Explained.{line_shown, behind_reading, faulty_line, IsPairShown}
use Rattle.tmr_top.specs.Loads.{original_file, hardened_file, certificate_file}
use Rattle.tmr_top.specs.Pairs.{ReadPair, HoldsPair}
use Rattle.tmr_top.specs.Private.Opened.{netlist_file, bytes_file, HoldsBytes, HoldsText, IsRefusal, Gives}
use Rattle.tmr_top.specs.Private.PairFiles.{AreDesigns}
use Rattle.tmr_top.specs.Private.Refused.{Refuses, IsRefusedNetlist}
use Rattle.tmr_top.specs.Private.Shown.{ShowsFor, IsShownNetlist, AreShown, IsShownCertificate}
use Rattle.tmr_top.proofs.LoadLaws.{refusal_more}
use Rattle.tmr_top.proofs.PairLaws.{holds_no_certificate, unread_pair}

-- a line is put behind a text, and then a line feed
pub shown_text : (refusal line old mid new bytes : List ℕ) (number : ℕ) → old ≡ refusal → line ≡ shown_line bytes number → mid ≡ old ++ line → new ≡ mid ++ 10 ∷ [] → new ≡ refusal ++ line_shown bytes number
shown_text refusal line old mid new bytes number is shown put end =
    end
    ∙ (ap (λ (t : List ℕ). t ++ 10 ∷ []) put
    ∙ (append_assoc old line (10 ∷ [])
    ∙ (ap (λ (t : List ℕ). t ++ (line ++ 10 ∷ [])) is
    ∙ ap (λ (t : List ℕ). refusal ++ (t ++ 10 ∷ [])) shown)))

-- a refusal for a reason, with the line that it names, in the words of the room
pub is_shown_refusal : {E : Type 0} (name : List ℕ) (reason : Result (Vec ℕ Global) E) (expected bytes : List ℕ) (number : ℕ) (C : Type 0) (G : Contents → Type 0) (R : List ℕ → Contents → Type 0) (why : Stop) → ShowsFor name reason bytes number why → IfOk reason (λ r. r.items ≡ expected) → OnOk reason C
    → ((text : List ℕ) (held : Contents) → text ≡ refused_line name expected ++ line_shown bytes number → C → G held → R text held) → IsRefusal G R why
is_shown_refusal name (Ok r) expected bytes number C G R why shows says caused f = go why shows
  where
    go : (why : Stop) → Refuses (refused_line name r.items ++ line_shown bytes number) why → IsRefusal G R why
    go (stop.Failed other) is = absurd is
    go (stop.TooLong other) is = absurd is
    go (stop.Refused text) is = λ held g. f text.items held (subst (λ (t : List ℕ). text.items ≡ refused_line name t ++ line_shown bytes number) says is) caused g
    go stop.Memory is = tt
is_shown_refusal name (Err e) expected bytes number C G R why shows says caused f = subst (λ (s : Stop). IsRefusal G R s) (sym shows) tt

module _ (held : Contents) (name : List ℕ) (limit : ℕ) (bytes : List ℕ) (holds : HoldsBytes held (bytes_file name limit) bytes) where
  there : get held name ≡ Some bytes
  there = holds.there ∙ ap Some holds.fact

  short : length bytes ≤ limit
  short = subst (λ (b : List ℕ). length b ≤ limit) holds.fact holds.short

  -- bytes that were read
  pub text_held : (models : List PlainModel) → reading bytes ≡ Ok models → HoldsText held (netlist_file name limit) (Ok models)
  text_held models read = record { bytes = bytes; there = there; short = short; fact = read }

  -- a bad line is shown
  pub bad_shown : (line : ℕ) (kind : TextKind) (text : List ℕ) → reading bytes ≡ Err (record { line = line; kind = kind }) → text ≡ refused_line name (line_reason line (kind_text kind)) ++ line_shown bytes line → IsShownNetlist (netlist_file name limit) text held
  bad_shown line kind text bad says = record {
    refusal = refused_line name (line_reason line (kind_text kind));
    refused = record {
      reason = line_reason line (kind_text kind);
      unread = record { bytes = bytes; there = there; short = short; fact = inl (record { bad = record { line = line; kind = kind }; read = bad; says = refl }) };
      says = refl;
    };
    shows = record {
      bytes = bytes;
      there = there;
      short = short;
      fact = says ∙ ap (λ (r : Result (List PlainModel) Bad). refused_line name (line_reason line (kind_text kind)) ++ behind_reading bytes r) (sym bad);
    };
  }

  -- of a text that was read no line is shown
  pub none_shown : (models : List PlainModel) (text : List ℕ) → reading bytes ≡ Ok models → IsRefusedNetlist (netlist_file name limit) text held → IsShownNetlist (netlist_file name limit) text held
  none_shown models text read refused = record {
    refusal = text;
    refused = refused;
    shows = record {
      bytes = bytes;
      there = there;
      short = short;
      fact = sym (append-nil text) ∙ ap (λ (r : Result (List PlainModel) Bad). text ++ behind_reading bytes r) (sym read);
    };
  }

-- a netlist whose bytes were read gives its design, or its refusal shows no line
pub netlist_gives : (name : List ℕ) (limit : ℕ) (items bytes : List ℕ) (models : List PlainModel) (answer : Result FreeDesign Stop) → bytes ≡ items → reading bytes ≡ Ok models
    → Gives (λ held. HoldsText held (netlist_file name limit) (Ok models)) (λ (n : FreeDesign) held. HoldsDesign held (netlist_file name limit) n.design.net n.free) (IsRefusedNetlist (netlist_file name limit)) answer
    → Gives (λ held. HoldsBytes held (bytes_file name limit) items) (λ (n : FreeDesign) held. HoldsDesign held (netlist_file name limit) n.design.net n.free) (IsShownNetlist (netlist_file name limit)) answer
netlist_gives name limit items bytes models answer same read gives = go answer gives
  where
    now : (held : Contents) → HoldsBytes held (bytes_file name limit) items → HoldsBytes held (bytes_file name limit) bytes
    now held holds = subst (λ (b : List ℕ). HoldsBytes held (bytes_file name limit) b) (sym same) holds

    go : (answer : Result FreeDesign Stop) → Gives (λ held. HoldsText held (netlist_file name limit) (Ok models)) (λ (n : FreeDesign) held. HoldsDesign held (netlist_file name limit) n.design.net n.free) (IsRefusedNetlist (netlist_file name limit)) answer
        → Gives (λ held. HoldsBytes held (bytes_file name limit) items) (λ (n : FreeDesign) held. HoldsDesign held (netlist_file name limit) n.design.net n.free) (IsShownNetlist (netlist_file name limit)) answer
    go (Ok n) gives = λ held holds. gives held (text_held held name limit bytes (now held holds) models read)
    go (Err why) gives = refusal_more (λ held. HoldsText held (netlist_file name limit) (Ok models)) (λ held. HoldsBytes held (bytes_file name limit) items) (IsRefusedNetlist (netlist_file name limit)) (IsShownNetlist (netlist_file name limit)) why gives
        (λ held holds. text_held held name limit bytes (now held holds) models read)
        (λ text held holds refused. none_shown held name limit bytes (now held holds) models text read refused)

-- the faulty line of a certificate is shown
pub fault_shown : (l : Limits) (held : Contents) (name : List ℕ) (n h : Net) (bytes : List ℕ) (fault : CertFault) (text : List ℕ) → HoldsBytes held (certificate_file l name) bytes → cert_of_text n h bytes ≡ Err fault → text ≡ refused_line name (cert_reason fault) ++ line_shown bytes (faulty_line fault) → IsShownCertificate l name n h text held
fault_shown l held name n h bytes fault text holds unread says = record {
  refusal = refused_line name (cert_reason fault);
  refused = record { fault = fault; unread = holds_no_certificate held (certificate_file l name) bytes n h fault holds unread; says = refl };
  shows = record { bytes = bytes; there = holds.there ∙ ap Some holds.fact; short = subst (λ (b : List ℕ). length b ≤ most_hardened l) holds.fact holds.short; fact = says };
}

-- ---- the refusals of a pair

pub designs_shown : (p : Pair) (text : List ℕ) (held : Contents) → AreShown (original_file p.limits p.original) (hardened_file p.limits p.hardened) text held → IsPairShown p held text
designs_shown p text held (inl first) = inl (record {
  refusal = first.refusal;
  unread = record { reason = first.refused.reason; unread = first.refused.unread; says = first.refused.says };
  shows = first.shows;
})
designs_shown p text held (inr second) = inr (inl (record {
  refusal = second.shown.refusal;
  unread = record {
    original = second.design;
    free = second.free;
    original_read = second.first_read;
    reason = second.shown.refused.reason;
    unread = second.shown.refused.unread;
    says = second.shown.refused.says;
  };
  shows = second.shown.shows;
}))

pub certificate_shown : (p : Pair) (text : List ℕ) (held : Contents) (designs : Designs) → AreDesigns p.limits p.original p.hardened designs held → IsShownCertificate p.limits p.certificate designs.original.design.net designs.hardened.design.net text held → IsPairShown p held text
certificate_shown p text held designs are shown = inr (inr (record {
  refusal = shown.refusal;
  unread = record {
    original = designs.original.design.net;
    free = designs.original.free;
    original_read = are.original_read;
    hardened = designs.hardened.design.net;
    hardened_free = designs.hardened.free;
    hardened_read = are.hardened_read;
    fault = shown.refused.fault;
    unread = shown.refused.unread;
    says = shown.refused.says;
  };
  shows = shown.shows;
}))

-- what is refused is not read
pub unshown_pair : (held : Contents) (p : Pair) (text : List ℕ) (r : ReadPair) → IsPairShown p held text → HoldsPair held p r → ⊥
unshown_pair held p text r (inl says) read = unread_pair held p says.refusal r (inl says.unread) read
unshown_pair held p text r (inr (inl says)) read = unread_pair held p says.refusal r (inr (inl says.unread)) read
unshown_pair held p text r (inr (inr says)) read = unread_pair held p says.refusal r (inr (inr says.unread)) read
