-- Pairs whose files are kept as bytes, and refusals that show the line that they name.
use Rattle.std.specs.Prelude.{◌≡◌, ℕ, ◌⊎◌, Bool, List, ◌++◌, Vec, Result, MatchResult}
use Rattle.std.specs.declared.alloc.Global.{Global}
use Rattle.flat_net.specs.Net.{Net}
use Rattle.limits.specs.declared.Limits.{Limits}
use Rattle.tmr_outside.specs.Contents.{Contents}
use Rattle.tmr_texts.specs.Texts.{refused_line}
use Rattle.tmr_words.specs.Line.{Pair}
use Rattle.tmr_top.specs.declared.loads.Stop.{Stop}
use Rattle.tmr_top.specs.declared.loads.Stop.TheVariants as stop
use Rattle.tmr_top.specs.declared.pair_files.DesignBytes.{DesignBytes}
use Rattle.tmr_top.specs.declared.pair_files.PairBytes.{PairBytes}
use Rattle.tmr_top.specs.Designs.{HoldsDesign}
use Rattle.tmr_top.specs.Explained.{line_shown, behind_netlist, faulty_line}
use Rattle.tmr_top.specs.Files.{Holds}
use Rattle.tmr_top.specs.Loads.{Load, original_file, hardened_file, certificate_file, kept_file}
use Rattle.tmr_top.specs.Private.Opened.{HoldsBytes}
use Rattle.tmr_top.specs.Private.Refused.{IsRefusedNetlist, IsRefusedCertificate, Refuses}

-- the bytes are what the names of two netlists hold
pub record AreDesignBytes (l : Limits) (original hardened : List ℕ) (loaded : DesignBytes) (held : Contents) : Type 0 where
  pub original_loaded : HoldsBytes held (kept_file (original_file l original)) loaded.original.items
  pub hardened_loaded : HoldsBytes held (kept_file (hardened_file l hardened)) loaded.hardened.items

-- and those of a pair and its certificate
pub record ArePairBytes (p : Pair) (loaded : PairBytes) (held : Contents) : Type 0 where
  pub designs : AreDesignBytes p.limits p.original p.hardened loaded.designs held
  pub certificate_loaded : HoldsBytes held (certificate_file p.limits p.certificate) loaded.certificate.items

-- the stop is the refusal for this reason, where there was memory for it, and behind it this line of the bytes
abbrev pub ShowsFor : {E : Type 0} → List ℕ → Result (Vec ℕ Global) E → List ℕ → ℕ → Stop → Type 0
ShowsFor name reason bytes number why =
    MatchResult reason (λ r. Refuses (refused_line name r.items ++ line_shown bytes number) why) (λ _. why ≡ stop.Memory)

-- the file is no design: its refusal, and behind it the line that it names
pub record IsShownNetlist (load : Load) (text : List ℕ) (held : Contents) : Type 0 where
  pub refusal : List ℕ
  pub refused : IsRefusedNetlist load refusal held
  pub shows : Holds held load (λ bytes. text ≡ refusal ++ behind_netlist bytes)

-- the first file is a design, and the second one is none
pub record IsSecondShown (first second : Load) (text : List ℕ) (held : Contents) : Type 0 where
  pub design : Net
  pub free : List Bool
  pub first_read : HoldsDesign held first design free
  pub shown : IsShownNetlist second text held

-- the first of two files that is no design is told
abbrev pub AreShown : Load → Load → List ℕ → Contents → Type 0
AreShown first second text held = IsShownNetlist first text held ⊎ IsSecondShown first second text held

-- the file is no certificate of these two designs: its refusal, and behind it the line that it names
pub record IsShownCertificate (l : Limits) (name : List ℕ) (n h : Net) (text : List ℕ) (held : Contents) : Type 0 where
  pub refusal : List ℕ
  pub refused : IsRefusedCertificate l name n h refusal held
  pub shows : Holds held (certificate_file l name) (λ bytes. text ≡ refusal ++ line_shown bytes (faulty_line refused.fault))
