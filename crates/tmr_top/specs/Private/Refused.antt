-- Netlists that are refused, each in the line that is printed.
use Rattle.std.specs.Prelude.{◌≡◌, ℕ, ◌≤◌, ◌+◌, ◌*◌, ◌⊎◌, Bool, List, Vec, Result, MatchResult}
use Rattle.std.specs.declared.alloc.Global.{Global}
use Rattle.flat_net.specs.Net.{Net, net_count, pin_total}
use Rattle.flat_net.specs.Free.{FreeDesign}
use Rattle.hierarchy.specs.Sizes.{row_total}
use Rattle.limits.specs.declared.Limits.{Limits}
use Rattle.tmr_outside.specs.Contents.{Contents}
use Rattle.certificate.specs.declared.fault.CertFault.{CertFault}
use Rattle.tmr_top.specs.Loads.{Load, certificate_file}
use Rattle.tmr_top.specs.Pairs.{HoldsNoCertificate}
use Rattle.tmr_texts.specs.Reasons.{cert_reason}
use Rattle.tmr_top.specs.Designs.{HoldsDesign, HoldsNoDesign}
use Rattle.tmr_top.specs.declared.loads.Stop.{Stop}
use Rattle.tmr_top.specs.declared.loads.Stop.TheVariants as stop
use Rattle.tmr_top.specs.Private.FlatWithin.{IsFlatWithin}
use Rattle.tmr_top.specs.Private.Opened.{Keeps}
use Rattle.tmr_texts.specs.Texts.{refused_line}

-- the file is no design
pub record IsRefusedNetlist (load : Load) (line : List ℕ) (held : Contents) : Type 0 where
  pub reason : List ℕ
  pub unread : HoldsNoDesign held load reason
  pub says : line ≡ refused_line load.name reason

-- the file was read as a design, or is refused; this is kept
abbrev pub KeepsDesign : Load → Result FreeDesign (Vec ℕ Global) → Contents → Type 0
KeepsDesign load = Keeps (λ n held. HoldsDesign held load n.design.net n.free) (IsRefusedNetlist load)

-- the first file is a design, and the second one is none
pub record IsSecondRefused (first second : Load) (line : List ℕ) (held : Contents) : Type 0 where
  pub design : Net
  pub free : List Bool
  pub first_read : HoldsDesign held first design free
  pub refused : IsRefusedNetlist second line held

-- the first of two files that is no design is told
abbrev pub AreRefused : Load → Load → List ℕ → Contents → Type 0
AreRefused first second line held = IsRefusedNetlist first line held ⊎ IsSecondRefused first second line held

-- the file is no certificate of these two designs
pub record IsRefusedCertificate (l : Limits) (name : List ℕ) (n h : Net) (line : List ℕ) (held : Contents) : Type 0 where
  pub fault : CertFault
  pub unread : HoldsNoCertificate held (certificate_file l name) n h fault
  pub says : line ≡ refused_line name (cert_reason fault)

-- the stop is the refusal in this line, or there was no memory for it
abbrev pub Refuses : List ℕ → Stop → Type 0
Refuses line (stop.Failed name) = ⊥
Refuses line (stop.TooLong name) = ⊥
Refuses line (stop.Refused text) = text.items ≡ line
Refuses line stop.Memory = Unit {0}

-- the same for a reason, where there was memory for it
abbrev pub RefusesFor : {E : Type 0} → List ℕ → Result (Vec ℕ Global) E → Stop → Type 0
RefusesFor name reason why = MatchResult reason (λ r. Refuses (refused_line name r.items) why) (λ _. why ≡ stop.Memory)

-- the design and its flat text are within the limit, and some library is flattened to it
pub record IsWithin (limit : ℕ) (n : FreeDesign) : Type 0 where
  pub few : 2 * (net_count n.design.net + pin_total n.design.net) ≤ limit
  pub rows : row_total n.design.net ≤ limit
  pub flat : IsFlatWithin limit n.design.net n.free
