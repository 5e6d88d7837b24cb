pub mod Campaign
pub mod NearCampaign
pub mod Private
