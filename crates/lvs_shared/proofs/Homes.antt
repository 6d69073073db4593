-- What lies behind a lock, when one act is added.
use Rattle.std.proofs.Common.{◌≡◌, ℕ, sym, ap, ◌∙◌, subst}
use Rattle.lvs_book.specs.Passes.{Held, with_act}
use Rattle.lvs_types.specs.declared.bucket.Change.{Change}
use Rattle.lvs_model.specs.Buckets.{changed_by, Fits}
use Rattle.lvs_bucket.specs.Seen.{BucketSeen}
use Rattle.lvs_shared.specs.declared.origin.Act.{Act}
use Rattle.lvs_shared.specs.declared.origin.Opened.{Opened}
use Rattle.lvs_shared.specs.Acts.{made}
use Rattle.lvs_shared.specs.Locked.{IsHome}
use Rattle.lvs_shared.proofs.Histories.{made_snoc}

-- a bucket of the same number and entries
pub home_same : (o : Opened) (b b' : BucketSeen) (p : Held Opened Act) → IsHome o b p → b'.number ≡ b.number → b'.buckets ≡ b.buckets → b'.entries ≡ b.entries → IsHome o b' p
home_same o b b' p is number buckets entries = record {
  opened = is.opened;
  origin = is.origin;
  lane = is.lane ∙ sym number;
  below = rw number is.below;
  buckets = buckets ∙ is.buckets;
  entries = entries ∙ is.entries ∙ ap (λ (n : ℕ). made n o p.acts) (sym number);
}

pub home_fits : (o : Opened) (b : BucketSeen) (p : Held Opened Act) (c : Change) → IsHome o b p → Fits c (made p.lane o p.acts) → Fits c b.entries
home_fits o b p c is fits = subst (Fits c) (ap (λ (n : ℕ). made n o p.acts) is.lane ∙ sym is.entries) fits

pub home_more : (o : Opened) (b b' : BucketSeen) (p p' : Held Opened Act) (a : Act) (c : Change) → IsHome o b p → p' ≡ with_act a p → a.change ≡ c → b'.number ≡ b.number → b'.buckets ≡ b.buckets → b'.entries ≡ changed_by c b.entries → IsHome o b' p'
home_more o b b' p p' a c is one change number buckets now = record {
  opened = is.opened;
  origin = ap (λ (q : Held Opened Act). q.origin) one ∙ is.origin;
  lane = ap (λ (q : Held Opened Act). q.lane) one ∙ is.lane ∙ sym number;
  below = rw number is.below;
  buckets = buckets ∙ is.buckets;
  entries = now
      ∙ ap (changed_by c) is.entries
      ∙ ap (λ (d : Change). changed_by d (made b.number o p.acts)) (sym change)
      ∙ sym (made_snoc b.number o p.acts a)
      ∙ sym (ap (λ (q : Held Opened Act). made b.number o q.acts) one)
      ∙ ap (λ (n : ℕ). made n o p'.acts) (sym number);
}
